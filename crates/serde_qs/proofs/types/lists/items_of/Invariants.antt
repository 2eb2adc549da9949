use Rattle.std.proofs.Common.{◌≡◌, map, length}
use Rattle.std.specs.Vec.Iter.{into_iter_items, into_iter_len}
use Rattle.qs_data.specs.data.Views.{values_in}
use Rattle.serde_qs.specs.Meaning.{values_meant}
use Rattle.qs_data.proofs.lemmas.read.Steps.{before}
use Rattle.serde_qs.proofs.types.lists.items_of.Given as goal

abbrev pub invariant-loop-part : goal.invariant-loop-part
invariant-loop-part g l =
    let m = g.T.Deserialize.table.meaning in
    (values_meant m (values_in l.fn.parts.items) ≡ before (map g.T.Deserialize.table.value l.items.items) (values_meant m (values_in (into_iter_items l.part-iterator))))
    × (into_iter_len l.part-iterator ≡ length (into_iter_items l.part-iterator))
