-- The entries in the tree, and those that are left, are the entries of the vector.
use Rattle.qs_tree.proofs.Common.{◌≡◌, ◌++◌, length, IsStrictlySortedBy, keys_of, into_iter_items, into_iter_len, key_cmp}
use Rattle.qs_tree.proofs.build.builder.into_tree.Given as goal

abbrev pub invariant-loop-entry : goal.invariant-loop-entry
invariant-loop-entry l = record {
  all : l.map.entries ++ into_iter_items l.entry-iterator ≡ l.fn.entries;
  size : into_iter_len l.entry-iterator ≡ length (into_iter_items l.entry-iterator);
  sorted : IsStrictlySortedBy key_cmp (keys_of l.map.entries ++ keys_of (into_iter_items l.entry-iterator));
}
