use Rattle.qs_data.proofs.Common.{◌≡◌, ◌+◌, ◌*◌, drop, sum_by, values_same, pairs_same, members_same, values_in, pairs_in, members_in, weight, pair_weight, member_weight}
use Rattle.qs_data.proofs.data.sameness.+sameness.Given as goal

abbrev pub decreases-same_data : goal.decreases-same_data
decreases-same_data l = 3 * weight l.left.now

abbrev pub decreases-same_items : goal.decreases-same_items
decreases-same_items l = 3 * sum_by weight l.left.now + 2

abbrev pub decreases-same_pairs : goal.decreases-same_pairs
decreases-same_pairs l = 3 * sum_by pair_weight l.left.now + 2

abbrev pub decreases-same_members : goal.decreases-same_members
decreases-same_members l = 3 * sum_by member_weight l.left.now + 2

abbrev pub invariant-same_items-loop-at : goal.invariant-same_items-loop-at
invariant-same_items-loop-at l = values_same (values_in l.left) (values_in l.right) ≡ values_same (values_in (drop l.at l.left)) (values_in (drop l.at l.right))

abbrev pub invariant-same_pairs-loop-at : goal.invariant-same_pairs-loop-at
invariant-same_pairs-loop-at l = pairs_same (pairs_in l.left) (pairs_in l.right) ≡ pairs_same (pairs_in (drop l.at l.left)) (pairs_in (drop l.at l.right))

abbrev pub invariant-same_members-loop-at : goal.invariant-same_members-loop-at
invariant-same_members-loop-at l = members_same (members_in l.left) (members_in l.right) ≡ members_same (members_in (drop l.at l.left)) (members_in (drop l.at l.right))
