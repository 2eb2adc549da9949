use Rattle.qs_tree.proofs.Common.{◌≡◌, true, ◌-◌, length, is_escape, NoneBetween, ends_of}
use Rattle.qs_tree.proofs.lemmas.scan.Runs.{Within}
use Rattle.qs_tree.proofs.scan.cursor.run_len.Given as goal

abbrev pub invariant-loop-at : goal.invariant-loop-at
invariant-loop-at l = Within (ends_of l.until) l.is_form l.bytes l.at × (l.has_no_escape ≡ true → NoneBetween is_escape l.bytes 0 l.at)

abbrev pub decreases-loop-at : goal.decreases-loop-at
decreases-loop-at l = length l.bytes - l.at
