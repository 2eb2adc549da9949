-- What is expected of the whole tree is what the frames make of the node, below the keys so far.
use Rattle.qs_tree.proofs.Common.{◌≡◌, ◌≤◌, ◌-◌, length, drop, option_and_then, add, built_tree, is_push, leaf_of, path_of, put_all_back, whole_tree}
use Rattle.qs_tree.proofs.build.descent.OpenTree.add_along.Given as goal

abbrev pub invariant-loop-pair : goal.invariant-loop-pair
invariant-loop-pair l = record {
  way : add (path_of l.fn.pair.path) (is_push l.fn.pair.manner) (leaf_of l.fn.pair.leaf) (whole_tree l.fn.self)
      ≡ option_and_then (put_all_back l.self.frames.items) (add (path_of (drop l.level l.pair.path)) (is_push l.pair.manner) (leaf_of l.pair.leaf) (built_tree l.self.node));
  count : l.level ≤ length l.pair.path;
}

abbrev pub decreases-loop-pair : goal.decreases-loop-pair
decreases-loop-pair l = length l.pair.path - l.level
