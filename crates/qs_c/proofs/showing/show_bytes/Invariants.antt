use Rattle.std.proofs.Common.{◌≡◌, ◌++◌, drop}
use Rattle.json.specs.Tree.{items_tokens}
use Rattle.qs_c.specs.Shown.{byte_items}
use Rattle.qs_c.proofs.showing.show_bytes.Given as goal

abbrev pub invariant-loop-byte : goal.invariant-loop-byte
invariant-loop-byte l =
    (l.writer.tokens ++ items_tokens (byte_items (drop l.byte-index l.byte-items)) ≡ l.initial.writer.tokens ++ items_tokens (byte_items l.byte-items))
    × (l.writer.before ≡ l.initial.writer.before)
