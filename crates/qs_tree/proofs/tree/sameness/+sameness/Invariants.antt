use Rattle.qs_tree.proofs.Common.{◌≡◌, ◌+◌, ◌*◌, drop, items_same, entries_same, node_count, items_node_count, entries_node_count, key_trees, tree_of, items_of, entries_from}
use Rattle.qs_tree.proofs.tree.sameness.+sameness.Given as goal

abbrev pub decreases-same_nodes : goal.decreases-same_nodes
decreases-same_nodes l = 2 * node_count (tree_of l.left.now)

abbrev pub decreases-same_entries : goal.decreases-same_entries
decreases-same_entries l = 2 * entries_node_count (entries_from (key_trees l.left.now)) + 2

abbrev pub decreases-same_items : goal.decreases-same_items
decreases-same_items l = 2 * items_node_count (items_of l.left.now) + 2

abbrev pub invariant-same_entries-loop-at : goal.invariant-same_entries-loop-at
invariant-same_entries-loop-at l =
    entries_same (entries_from (key_trees l.left)) (entries_from (key_trees l.right)) ≡ entries_same (entries_from (key_trees (drop l.at l.left))) (entries_from (key_trees (drop l.at l.right)))

abbrev pub invariant-same_items-loop-at : goal.invariant-same_items-loop-at
invariant-same_items-loop-at l = items_same (items_of l.left) (items_of l.right) ≡ items_same (items_of (drop l.at l.left)) (items_of (drop l.at l.right))

abbrev pub decreases-same_entry : goal.decreases-same_entry
decreases-same_entry l = 2 * node_count (tree_of l.left.now.1) + 1
