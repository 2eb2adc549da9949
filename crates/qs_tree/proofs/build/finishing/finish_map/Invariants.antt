-- The level and those that wait for it are the whole, and their keys are in order. Each turn takes a map out, or ends one that waits.
use Rattle.qs_tree.proofs.Common.{◌≡◌, ◌+◌, ◌*◌, length, IsStrictlySortedBy, keys_of, key_cmp, entries_from, built_entries, level_pairs, maps_left}
use Rattle.qs_tree.proofs.lemmas.build.Levels.{whole, AreInOrder, maps_on_stack}
use Rattle.qs_tree.proofs.build.finishing.finish_map.Given as goal

abbrev pub invariant-loop-stack : goal.invariant-loop-stack
invariant-loop-stack l = record {
  all : whole l.stack.items (entries_from (level_pairs l.level)) ≡ built_entries l.fn.map;
  sorted : IsStrictlySortedBy key_cmp (keys_of (level_pairs l.level));
  stack : AreInOrder l.stack.items;
}

abbrev pub decreases-loop-stack : goal.decreases-loop-stack
decreases-loop-stack l = 2 * (maps_left l.level + maps_on_stack l.stack.items) + length l.stack.items
