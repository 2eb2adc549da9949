-- The entries in the vector, and those that are left, are the entries of the tree.
use Rattle.std.proofs.Common.{◌≡◌, ◌++◌}
use Rattle.qs_tree.proofs.build.builder.into_vector.Given as goal

abbrev pub invariant-loop-entry : goal.invariant-loop-entry
invariant-loop-entry l = l.entries ++ l.entry-iterator ≡ l.fn.map.entries
