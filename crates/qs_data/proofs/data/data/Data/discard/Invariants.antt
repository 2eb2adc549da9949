use Rattle.qs_data.proofs.Common.{◌+◌, ◌≤◌, sum_by, weight}
use Rattle.qs_data.proofs.data.data.Data.discard.Given as goal

abbrev pub invariant-loop-datum : goal.invariant-loop-datum
invariant-loop-datum l = sum_by weight l.stack.items + 1 ≤ weight l.fn.self

abbrev pub decreases-loop-datum : goal.decreases-loop-datum
decreases-loop-datum l = sum_by weight l.stack.items
