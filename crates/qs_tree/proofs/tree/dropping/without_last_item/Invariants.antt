-- The items get fewer.
use Rattle.std.proofs.Common.{◌≤◌, length}
use Rattle.qs_tree.proofs.lemmas.tree.NodeCounts.{item_nodes}
use Rattle.qs_tree.proofs.tree.dropping.without_last_item.Given as goal

abbrev pub invariant-loop-last : goal.invariant-loop-last
invariant-loop-last l = item_nodes l.items.items ≤ item_nodes l.fn.leaves.items

abbrev pub decreases-loop-last : goal.decreases-loop-last
decreases-loop-last l = length l.items.items
