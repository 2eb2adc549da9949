-- The entries so far, and those that are left, are those of the finished map.
use Rattle.qs_tree.proofs.Common.{◌≡◌, ◌++◌, length, IsStrictlySortedBy, keys_of, into_iter_items, into_iter_len, key_cmp, as_builders}
use Rattle.qs_tree.proofs.build.builder.as_builders.Given as goal

abbrev pub invariant-loop-entry : goal.invariant-loop-entry
invariant-loop-entry l = record {
  all : l.builders ++ as_builders (into_iter_items l.entry-iterator) ≡ as_builders l.fn.entries;
  size : into_iter_len l.entry-iterator ≡ length (into_iter_items l.entry-iterator);
  sorted : IsStrictlySortedBy key_cmp (keys_of l.builders ++ keys_of (into_iter_items l.entry-iterator));
}
