use Rattle.qs_data.proofs.Common.{◌+◌, ◌≤◌, sum_by, weight, member_weight}
use Rattle.qs_data.proofs.data.discard.put_members.Given as goal

abbrev pub invariant-loop-name : goal.invariant-loop-name
invariant-loop-name l = sum_by weight l.stack.items + sum_by member_weight l.members.items ≤ sum_by weight l.fn.stack.items + sum_by member_weight l.fn.members.items

abbrev pub decreases-loop-name : goal.decreases-loop-name
decreases-loop-name l = goal.left-loop-name l
