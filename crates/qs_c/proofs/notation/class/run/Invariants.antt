use Rattle.std.proofs.Common.{◌≡◌, ◌+◌, drop}
use Rattle.std.specs.List.{prefix_len}
use Rattle.qs_c.specs.Classes.{is_in}
use Rattle.qs_c.proofs.notation.class.run.Given as goal

abbrev pub invariant-loop-byte : goal.invariant-loop-byte
invariant-loop-byte l = (l.len ≡ l.byte-index) × (l.len + prefix_len (is_in l.class) (drop l.byte-index l.bytes) ≡ prefix_len (is_in l.class) l.bytes)
