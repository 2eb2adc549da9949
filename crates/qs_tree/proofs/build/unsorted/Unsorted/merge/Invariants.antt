-- The entries are those of the leaves that were taken, which together with those that are left are all leaves.
use Rattle.qs_tree.proofs.Common.{◌≡◌, ◌++◌, length, into_iter_items, into_iter_len, entries_held, entries_of_leaves}
use Rattle.qs_tree.proofs.lemmas.tree.Keys.{Held}
use Rattle.qs_tree.proofs.build.unsorted.Unsorted.merge.Given as goal

abbrev pub invariant-loop-entry : goal.invariant-loop-entry
invariant-loop-entry l = record {
  front : Held;
  same : entries_held l.entries ≡ entries_of_leaves front;
  all : entries_of_leaves (front ++ into_iter_items l.entry-iterator) ≡ entries_of_leaves l.fn.leaves.items;
  size : into_iter_len l.entry-iterator ≡ length (into_iter_items l.entry-iterator);
}
