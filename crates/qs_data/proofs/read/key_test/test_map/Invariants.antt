use Rattle.qs_data.proofs.Common.{entries_of_map, entries_after}
use Rattle.qs_data.proofs.lemmas.read.Entries.{Tested}
use Rattle.qs_data.proofs.read.key_test.test_map.Given as goal

abbrev pub invariant-loop-i : goal.invariant-loop-i
invariant-loop-i l = Tested (entries_of_map l.map) (entries_after l.i (entries_of_map l.map)) l.tested
