use Rattle.qs_data.proofs.Common.{entries_of_map, entries_after}
use Rattle.qs_data.proofs.lemmas.read.Entries.{Passed}
use Rattle.qs_data.proofs.read.key_test.keys_are_text.Given as goal

abbrev pub invariant-loop-i : goal.invariant-loop-i
invariant-loop-i l = Passed (entries_of_map l.map) (entries_after l.i (entries_of_map l.map)) l.passed
