use Rattle.std.proofs.Common.{◌≡◌, ◌++◌, map}
use Rattle.qs_data.specs.data.Views.{pair_of}
use Rattle.serde_qs.specs.Maps.{entry_data}
use Rattle.serde_qs.proofs.types.maps.BTreeMapStringSerialize.to_data.Given as goal

abbrev pub invariant-loop-key : goal.invariant-loop-key
invariant-loop-key g l = map pair_of l.pairs.items ++ map (entry_data g.T.Serialize.datum) l.key-iterator ≡ map (entry_data g.T.Serialize.datum) l.self.entries
