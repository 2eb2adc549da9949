use Rattle.qs_tree.proofs.Common.{◌≡◌, ◌≤◌, length, whole_tree, left, in_all, KnowsEnd, grown, AllocatesNothing, StaysUnallocated, IsFresh}
use Rattle.qs_tree.proofs.parsing.scan.Given as goal

-- the pairs that are left make of the tree what all pairs make of the first one
abbrev pub invariant-loop-item : goal.invariant-loop-item
invariant-loop-item l = record {
  grows : grown l.max_depth (left l.cursor) (whole_tree l.tree) ≡ grown l.max_depth (left l.fn.cursor) (whole_tree l.fn.tree);
  fewer : length l.cursor.rest.now ≤ length l.fn.cursor.rest.now;
  steps : in_all l.cursor ≡ in_all l.fn.cursor;
  end : KnowsEnd l.cursor;
  unallocated : AllocatesNothing l.fn.cursor.rest.now → IsFresh l.fn.tree → StaysUnallocated l.cursor.rest.now l.tree;
}

abbrev pub decreases-loop-item : goal.decreases-loop-item
decreases-loop-item l = length l.cursor.rest.now
