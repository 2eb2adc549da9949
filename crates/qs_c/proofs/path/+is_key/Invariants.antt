use Rattle.qs_spec.specs.Holds.{nesting}
use Rattle.qs_tree.specs.tree.Views.{tree_of}
use Rattle.qs_c.proofs.path.+is_key.Given as goal

abbrev pub decreases-is_key : goal.decreases-is_key
decreases-is_key l = nesting (tree_of l.tree.now)
