use Rattle.qs_data.proofs.Common.{◌≡◌, are_ints, entries_of_map, entries_after}
use Rattle.qs_data.proofs.read.items.are_integers.Given as goal

abbrev pub invariant-loop-i : goal.invariant-loop-i
invariant-loop-i l = are_ints (entries_of_map l.map) ≡ are_ints (entries_after l.i (entries_of_map l.map))
