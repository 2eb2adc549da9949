-- The keys that are left, above the value, are the whole path above the leaf.
use Rattle.qs_tree.proofs.Common.{◌≡◌, ◌≤◌, length, drop, Some, uninitialized, add, tree_of, is_push, leaf_of, path_of}
use Rattle.qs_tree.proofs.lemmas.build.Chains.{chain}
use Rattle.qs_tree.proofs.build.add_to_value.chain_of.Given as goal

abbrev pub invariant-keys : goal.invariant-keys
invariant-keys l = record {
  made : add (path_of (drop l.level l.fn.pair.path)) (is_push l.fn.pair.manner) (leaf_of l.fn.pair.leaf) uninitialized ≡ Some (chain (path_of (drop l.level l.pair.path)) (tree_of l.value));
  count : l.level ≤ length l.pair.path;
}

abbrev pub decreases-keys : goal.decreases-keys
decreases-keys l = length l.pair.path
