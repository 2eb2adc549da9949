use Rattle.std.proofs.Common.{◌≡◌, ◌-◌, ◌≤◌, length, take, count_by}
use Rattle.qs_tree.proofs.escape.search.class.count.Given as goal

abbrev pub invariant-loop-at : goal.invariant-loop-at
invariant-loop-at g l = record { within : l.at ≤ length l.bytes; counted : l.count ≡ count_by (g.C.Class.contains l.class) (take l.at l.bytes) }

abbrev pub decreases-loop-at : goal.decreases-loop-at
decreases-loop-at g l = length l.bytes - l.at

abbrev pub invariant-loop-at-2 : goal.invariant-loop-at-2
invariant-loop-at-2 g l = record { within : l.at ≤ length l.bytes; counted : l.count ≡ count_by (g.C.Class.contains l.class) (take l.at l.bytes) }

abbrev pub decreases-loop-at-2 : goal.decreases-loop-at-2
decreases-loop-at-2 g l = length l.bytes - l.at
