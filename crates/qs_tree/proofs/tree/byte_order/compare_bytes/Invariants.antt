-- What is left compares as the whole does.
use Rattle.qs_tree.proofs.Common.{◌≡◌, length, nat_cmp, slice_cmp}
use Rattle.qs_tree.proofs.tree.byte_order.compare_bytes.Given as goal

abbrev pub invariant-loop-left : goal.invariant-loop-left
invariant-loop-left l = slice_cmp nat_cmp l.left l.right ≡ slice_cmp nat_cmp l.fn.left l.fn.right

abbrev pub decreases-loop-left : goal.decreases-loop-left
decreases-loop-left l = length l.left
