use Rattle.qs_data.proofs.Common.{◌≡◌, drop, are_plain, are_plain_pairs, are_plain_members, values_in, pairs_in, members_in}
use Rattle.qs_data.proofs.data.plain.+plain.Given as goal

abbrev pub invariant-are_plain-loop-item : goal.invariant-are_plain-loop-item
invariant-are_plain-loop-item l = are_plain l.is_form (values_in l.items.items) ≡ are_plain l.is_form (values_in (drop l.item-index l.item-items))

abbrev pub invariant-are_plain_pairs-loop-pair : goal.invariant-are_plain_pairs-loop-pair
invariant-are_plain_pairs-loop-pair l = are_plain_pairs l.is_form (pairs_in l.pairs.items) ≡ are_plain_pairs l.is_form (pairs_in (drop l.pair-index l.pair-items))

abbrev pub invariant-are_plain_members-loop-member : goal.invariant-are_plain_members-loop-member
invariant-are_plain_members-loop-member l = are_plain_members l.is_form (members_in l.members.items) ≡ are_plain_members l.is_form (members_in (drop l.member-index l.member-items))
