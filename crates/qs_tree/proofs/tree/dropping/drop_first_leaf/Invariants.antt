-- No node is lost, and the tree gets smaller.
use Rattle.std.proofs.Common.{◌+◌, ◌≡◌}
use Rattle.qs_tree.proofs.lemmas.tree.NodeCounts.{nodes}
use Rattle.qs_tree.proofs.tree.dropping.drop_first_leaf.Given as goal

abbrev pub invariant-loop-tree : goal.invariant-loop-tree
invariant-loop-tree l = nodes l.tree + nodes l.above ≡ nodes l.fn.tree + nodes l.fn.above

abbrev pub decreases-loop-tree : goal.decreases-loop-tree
decreases-loop-tree l = nodes l.tree
