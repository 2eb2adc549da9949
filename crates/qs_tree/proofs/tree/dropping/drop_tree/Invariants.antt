-- What is left gets less.
use Rattle.qs_tree.proofs.lemmas.tree.NodeCounts.{nodes}
use Rattle.qs_tree.proofs.tree.dropping.drop_tree.Given as goal

abbrev pub decreases-loop-left : goal.decreases-loop-left
decreases-loop-left l = nodes l.left
