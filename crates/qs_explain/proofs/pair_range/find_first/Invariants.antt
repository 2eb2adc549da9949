use Rattle.std.proofs.Common.{◌≤◌, ◌-◌}
use Rattle.qs_explain.specs.PairRange.{HoldsNo}
use Rattle.qs_explain.proofs.pair_range.find_first.Given as goal

abbrev pub invariant-loop-at : goal.invariant-loop-at
invariant-loop-at l = (l.from ≤ l.at) × (l.at ≤ l.to) × HoldsNo l.byte l.input l.from l.at

abbrev pub decreases-loop-at : goal.decreases-loop-at
decreases-loop-at l = l.to - l.at
