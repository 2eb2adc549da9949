use Rattle.std.proofs.Common.{◌≡◌}
use Rattle.qs_tree.specs.tree.Views.{entries_of_map}
use Rattle.qs_data.specs.read.internal.Keys.{entries_after}
use Rattle.qs_data.specs.shape.Views.{key_shape_of}
use Rattle.qs_data.specs.failure.Unexpected.{first_other, is_key}
use Rattle.qs_data.proofs.failure.unexpected.find_unread_key.Given as goal

abbrev pub invariant-loop-i : goal.invariant-loop-i
invariant-loop-i l =
    let test = is_key (key_shape_of l.shape) in
    first_other test (entries_of_map l.map) ≡ first_other test (entries_after l.i (entries_of_map l.map))
