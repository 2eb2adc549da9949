use Rattle.qs_data.proofs.Common.{◌+◌, ◌≤◌, sum_by, weight}
use Rattle.qs_data.proofs.data.discard.put_items.Given as goal

abbrev pub invariant-loop-item : goal.invariant-loop-item
invariant-loop-item l = sum_by weight l.stack.items + sum_by weight l.items.items ≤ sum_by weight l.fn.stack.items + sum_by weight l.fn.items.items

abbrev pub decreases-loop-item : goal.decreases-loop-item
decreases-loop-item l = goal.left-loop-item l
