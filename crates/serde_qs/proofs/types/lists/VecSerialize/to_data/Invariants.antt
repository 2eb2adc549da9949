use Rattle.std.proofs.Common.{◌≡◌, map, take}
use Rattle.qs_data.specs.data.Views.{data_of}
use Rattle.serde_qs.proofs.types.lists.VecSerialize.to_data.Given as goal

abbrev pub invariant-loop-item : goal.invariant-loop-item
invariant-loop-item g l = map data_of l.parts.items ≡ map g.T.Serialize.datum (take l.item-index l.item-items)
