use Rattle.std.proofs.Common.{◌≡◌, length}
use Rattle.std.specs.Vec.Iter.{into_iter_items, into_iter_len}
use Rattle.qs_data.specs.data.Views.{pairs_in}
use Rattle.serde_qs.specs.Maps.{values_by_text, pairs_onto, nowhere}
use Rattle.serde_qs.proofs.types.maps.map_of.Given as goal

abbrev pub invariant-loop-key : goal.invariant-loop-key
invariant-loop-key g l =
    let m = g.T.Deserialize.table.meaning in
    (pairs_onto m nowhere (pairs_in l.fn.pairs.items) ≡ pairs_onto m (values_by_text g.T.Deserialize.table.value l.values) (pairs_in (into_iter_items l.key-iterator)))
    × (into_iter_len l.key-iterator ≡ length (into_iter_items l.key-iterator))
