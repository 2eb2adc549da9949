use Rattle.qs_data.proofs.Common.{◌≡◌, are_ints, entries_of_map, entries_after}
use Rattle.qs_serde.proofs.reading.node.are_integers.Given as goal

abbrev pub invariant-loop-at : goal.invariant-loop-at
invariant-loop-at l = are_ints (entries_of_map l.map) ≡ are_ints (entries_after l.at (entries_of_map l.map))
