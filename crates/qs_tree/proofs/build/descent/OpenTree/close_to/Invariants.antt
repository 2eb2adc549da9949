-- The frames that are left, with the node below them, are the whole tree.
use Rattle.qs_tree.proofs.Common.{◌≡◌, ◌≤◌, [], length, take, built_tree, put_all_back}
use Rattle.qs_tree.proofs.build.descent.OpenTree.close_to.Given as goal

abbrev pub invariant-loop-alloc : goal.invariant-loop-alloc
invariant-loop-alloc l = record {
  same : put_all_back l.self.frames.items (built_tree l.self.node) ≡ put_all_back l.fn.self.frames.items (built_tree l.fn.self.node);
  frames : l.self.frames.items ≡ take (length l.self.frames.items) l.fn.self.frames.items;
  most : length l.self.frames.items ≤ length l.fn.self.frames.items;
  least : l.level ≤ length l.self.frames.items;
  none : l.fn.self.frames.items ≡ [] → l.self ≡ l.fn.self;
}

abbrev pub decreases-loop-alloc : goal.decreases-loop-alloc
decreases-loop-alloc l = length l.self.frames.items
