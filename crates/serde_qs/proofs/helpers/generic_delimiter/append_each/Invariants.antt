use Rattle.std.proofs.Common.{◌≡◌, ◌++◌, map, drop, string_bytes}
use Rattle.std.specs.Char.{encode_utf8}
use Rattle.std.specs.List.{list_all}
use Rattle.serde_qs.specs.Items.{each_after}
use Rattle.serde_qs.proofs.helpers.generic_delimiter.append_each.Given as goal

abbrev pub invariant-loop-item : goal.invariant-loop-item
invariant-loop-item g l =
    (string_bytes l.fn.out ++ each_after (encode_utf8 l.delimiter) (map g.T.Item.printed l.list)
    ≡ string_bytes l.out ++ each_after (encode_utf8 l.delimiter) (map g.T.Item.printed (drop l.item-index l.list)))
    × (list_all g.T.Item.in_range l.list ≡ list_all g.T.Item.in_range (drop l.item-index l.list))
