use Rattle.qs_spec.specs.Holds.{nesting}
use Rattle.qs_tree.specs.tree.Views.{tree_of}
use Rattle.qs_c.proofs.path.+find.Given as goal

abbrev pub decreases-find : goal.decreases-find
decreases-find l = nesting (tree_of l.path.now)
