use Rattle.qs_tree.proofs.Common.{length, ◌-◌, ◌≤◌, NoneBetween}
use Rattle.qs_tree.proofs.escape.search.find_first.Given as goal

abbrev pub invariant-loop-at : goal.invariant-loop-at
invariant-loop-at g l = (l.at ≤ length l.bytes) × NoneBetween (g.C.Class.contains l.class) l.bytes 0 l.at

abbrev pub decreases-loop-at : goal.decreases-loop-at
decreases-loop-at g l = length l.bytes - l.at

abbrev pub invariant-loop-at-2 : goal.invariant-loop-at-2
invariant-loop-at-2 g l = (l.at ≤ length l.bytes) × NoneBetween (g.C.Class.contains l.class) l.bytes 0 l.at

abbrev pub decreases-loop-at-2 : goal.decreases-loop-at-2
decreases-loop-at-2 g l = length l.bytes - l.at
