-- The entries stay the same, and no map is finished.
use Rattle.qs_tree.proofs.Common.{◌≡◌, ◌≤◌, into_iter_len, level_pairs, maps_left}
use Rattle.qs_tree.proofs.build.finishing.Level.next_map.Given as goal

abbrev pub invariant-loop-key : goal.invariant-loop-key
invariant-loop-key l = record {
  pairs : level_pairs l.self ≡ level_pairs l.fn.self;
  fewer : maps_left l.self ≤ maps_left l.fn.self;
}

abbrev pub decreases-loop-key : goal.decreases-loop-key
decreases-loop-key l = into_iter_len l.self.left
