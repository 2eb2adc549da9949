-- Each key that is gone down is one fewer.
use Rattle.std.proofs.Common.{◌-◌, ◌*◌, length}
use Rattle.qs_tree.proofs.build.add_to_value.+add_to_value.Given as goal

abbrev pub decreases-add_to_value : goal.decreases-add_to_value
decreases-add_to_value l = 3 * (length l.pair.now.path - l.level)

abbrev pub decreases-add_below : goal.decreases-add_below
decreases-add_below l = 3 * (length l.pair.now.path - l.level) - 1

abbrev pub decreases-add_in_map : goal.decreases-add_in_map
decreases-add_in_map l = 3 * (length l.pair.now.path - l.level) - 2
