use Rattle.qs_data.proofs.Common.{◌≡◌, take, map, data_of, named, pair_of}
use Rattle.qs_data.proofs.data.+copy.Given as goal

abbrev pub invariant-copy::copy_items-loop-item : goal.invariant-copy::copy_items-loop-item
invariant-copy::copy_items-loop-item l = map data_of l.copies.items ≡ map data_of (take l.item-index l.item-items)

abbrev pub invariant-copy::copy_pairs-loop-pair : goal.invariant-copy::copy_pairs-loop-pair
invariant-copy::copy_pairs-loop-pair l = map pair_of l.copies.items ≡ map pair_of (take l.pair-index l.pair-items)

abbrev pub invariant-copy::copy_members-loop-member : goal.invariant-copy::copy_members-loop-member
invariant-copy::copy_members-loop-member l = map (named data_of) l.copies.items ≡ map (named data_of) (take l.member-index l.member-items)
