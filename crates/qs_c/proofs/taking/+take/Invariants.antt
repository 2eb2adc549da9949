use Rattle.std.proofs.Common.{◌≡◌, ◌++◌, map, drop}
use Rattle.qs_data.specs.data.Views.{data_of, pair_of}
use Rattle.qs_c.specs.Taken.{item_data, member_data}
use Rattle.qs_c.proofs.taking.+take.Given as goal

abbrev pub invariant-take_items-loop-item : goal.invariant-take_items-loop-item
invariant-take_items-loop-item l = map data_of l.taken.items ++ map item_data (drop l.item-index l.item-items) ≡ map item_data l.item-items

abbrev pub invariant-take_members-loop-member : goal.invariant-take_members-loop-member
invariant-take_members-loop-member l = map pair_of l.taken.items ++ map member_data (drop l.member-index l.member-items) ≡ map member_data l.member-items
