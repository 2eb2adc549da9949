use Rattle.qs_tree.proofs.Common.{◌≡◌, true, length, ◌-◌, ◌≤◌, is_escape, is_ampersand, NoneBetween}
use Rattle.qs_tree.proofs.escape.search.find_value_end.Given as goal

abbrev pub invariant-loop-at : goal.invariant-loop-at
invariant-loop-at l = (l.at ≤ length l.bytes) × NoneBetween is_ampersand l.bytes 0 l.at × (l.has_no_escape ≡ true → NoneBetween is_escape l.bytes 0 l.at)

abbrev pub decreases-loop-at : goal.decreases-loop-at
decreases-loop-at l = length l.bytes - l.at

abbrev pub invariant-loop-at-2 : goal.invariant-loop-at-2
invariant-loop-at-2 l = (l.at ≤ length l.bytes) × NoneBetween is_ampersand l.bytes 0 l.at × (l.has_no_escape ≡ true → NoneBetween is_escape l.bytes 0 l.at)

abbrev pub decreases-loop-at-2 : goal.decreases-loop-at-2
decreases-loop-at-2 l = length l.bytes - l.at
