use Rattle.qs_data.proofs.Common.{◌≡◌, drop, are_listed, are_listed_pairs, are_listed_members, values_in, pairs_in, members_in}
use Rattle.qs_tree.specs.Settings.{array_format_of}
use Rattle.qs_data.proofs.data.listed.+listed.Given as goal

abbrev pub invariant-are_listed-loop-item : goal.invariant-are_listed-loop-item
invariant-are_listed-loop-item l = are_listed (array_format_of l.format) (values_in l.items.items) ≡ are_listed (array_format_of l.format) (values_in (drop l.item-index l.item-items))

abbrev pub invariant-are_listed_pairs-loop-pair : goal.invariant-are_listed_pairs-loop-pair
invariant-are_listed_pairs-loop-pair l = are_listed_pairs (array_format_of l.format) (pairs_in l.pairs.items) ≡ are_listed_pairs (array_format_of l.format) (pairs_in (drop l.pair-index l.pair-items))

abbrev pub invariant-are_listed_members-loop-member : goal.invariant-are_listed_members-loop-member
invariant-are_listed_members-loop-member l = are_listed_members (array_format_of l.format) (members_in l.members.items) ≡ are_listed_members (array_format_of l.format) (members_in (drop l.member-index l.member-items))
