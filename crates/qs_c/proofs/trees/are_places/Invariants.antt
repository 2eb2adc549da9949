use Rattle.std.proofs.Common.{◌≡◌}
use Rattle.qs_tree.specs.tree.Views.{entries_of_map}
use Rattle.qs_data.specs.read.Entries.{entries_after}
use Rattle.qs_c.specs.Trees.{are_places}
use Rattle.qs_c.proofs.trees.are_places.Given as goal

abbrev pub invariant-loop-i : goal.invariant-loop-i
invariant-loop-i l = are_places 0 (entries_of_map l.map) ≡ are_places l.i (entries_after l.i (entries_of_map l.map))
