-- What is left gets less. A vector or a search tree is less than the map that it is in.
use Rattle.qs_tree.proofs.Common.{◌≡◌, ◌≤◌, ◌+◌, ◌*◌, btree_map_len}
use Rattle.qs_tree.proofs.lemmas.build.BuiltNodes.{nodes, entry_nodes}
use Rattle.qs_tree.proofs.build.dropping.+dropping.Given as goal

abbrev pub decreases-drop_builder : goal.decreases-drop_builder
decreases-drop_builder l = 4 * nodes l.node + 2

abbrev pub decreases-drop_first_leaf : goal.decreases-drop_first_leaf
decreases-drop_first_leaf l = 4 * nodes l.node + 1

abbrev pub decreases-vector_of : goal.decreases-vector_of
decreases-vector_of l = 4 * nodes l.node

abbrev pub decreases-without_last : goal.decreases-without_last
decreases-without_last l = 4 * entry_nodes l.entries + 2

abbrev pub decreases-drop_below : goal.decreases-drop_below
decreases-drop_below l = 4 * entry_nodes l.map.entries + 3

abbrev pub invariant-drop_builder-loop-entries : goal.invariant-drop_builder-loop-entries
invariant-drop_builder-loop-entries l = nodes l.left ≤ nodes l.fn.node

abbrev pub decreases-drop_builder-loop-entries : goal.decreases-drop_builder-loop-entries
decreases-drop_builder-loop-entries l = nodes l.left

abbrev pub invariant-drop_first_leaf-loop-entries : goal.invariant-drop_first_leaf-loop-entries
invariant-drop_first_leaf-loop-entries l = record {
  all : nodes l.node + nodes l.above ≡ nodes l.fn.node + nodes l.fn.above;
  within : nodes l.node ≤ nodes l.fn.node;
}

abbrev pub decreases-drop_first_leaf-loop-entries : goal.decreases-drop_first_leaf-loop-entries
decreases-drop_first_leaf-loop-entries l = nodes l.node

abbrev pub invariant-drop_below-loop-node : goal.invariant-drop_below-loop-node
invariant-drop_below-loop-node l = entry_nodes l.map.entries ≤ entry_nodes l.fn.map.entries

abbrev pub decreases-drop_below-loop-node : goal.decreases-drop_below-loop-node
decreases-drop_below-loop-node l = btree_map_len l.map
