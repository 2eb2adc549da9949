use Rattle.qs_data.proofs.Common.{◌+◌, ◌≤◌, sum_by, weight, pair_weight}
use Rattle.qs_data.proofs.data.discard.put_pairs.Given as goal

abbrev pub invariant-loop-key : goal.invariant-loop-key
invariant-loop-key l = sum_by weight l.stack.items + sum_by pair_weight l.pairs.items ≤ sum_by weight l.fn.stack.items + sum_by pair_weight l.fn.pairs.items

abbrev pub decreases-loop-key : goal.decreases-loop-key
decreases-loop-key l = goal.left-loop-key l
