use Rattle.qs_data.proofs.Common.{◌≡◌, keys_are_names, entries_of_map, entries_after}
use Rattle.qs_data.proofs.read.unknown.test_map.Given as goal

abbrev pub invariant-loop-i : goal.invariant-loop-i
invariant-loop-i g l =
    let es = entries_of_map l.map in
    keys_are_names (g.N.FieldNames.fields l.names) es ≡ keys_are_names (g.N.FieldNames.fields l.names) (entries_after l.i es)
