-- So many keys are the same.
use Rattle.qs_tree.proofs.Common.{◌≤◌, ◌-◌, length, take, AreKeys}
use Rattle.qs_tree.proofs.build.descent.OpenTree.shared.Given as goal

abbrev pub invariant-loop-level : goal.invariant-loop-level
invariant-loop-level l = record {
  keys : AreKeys (take l.level l.self.frames.items) l.path;
  most : l.level ≤ length l.self.frames.items;
  within : l.level ≤ length l.path;
}

abbrev pub decreases-loop-level : goal.decreases-loop-level
decreases-loop-level l = length l.path - l.level
