use Rattle.std.proofs.Common.{◌≡◌}
use Rattle.qs_tree.specs.tree.Views.{entries_of_map}
use Rattle.qs_data.specs.read.internal.Keys.{entries_after}
use Rattle.qs_data.specs.shape.Views.{fields_in}
use Rattle.qs_data.specs.read.Keys.{unknown_of}
use Rattle.qs_data.specs.failure.Unexpected.{first_other, is_allowed}
use Rattle.qs_data.proofs.failure.unexpected.find_in_map.Given as goal

abbrev pub invariant-loop-i : goal.invariant-loop-i
invariant-loop-i l =
    let test = is_allowed (unknown_of l.unknown) (fields_in l.fields.items) in
    first_other test (entries_of_map l.map) ≡ first_other test (entries_after l.i (entries_of_map l.map))
