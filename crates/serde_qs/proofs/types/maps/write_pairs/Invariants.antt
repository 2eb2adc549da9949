use Rattle.std.proofs.Common.{map}
use Rattle.qs_spec.specs.Data.{pairs_of}
use Rattle.qs_data.specs.write.Parts.{pairs_part}
use Rattle.qs_data.proofs.lemmas.write.Parts.{PartContinues}
use Rattle.serde_qs.specs.Maps.{entry_data}
use Rattle.serde_qs.proofs.types.maps.write_pairs.Given as goal

abbrev pub invariant-loop-key : goal.invariant-loop-key
invariant-loop-key g l =
    PartContinues l.initial.writer l.writer (pairs_part (pairs_of (map (entry_data g.T.Serialize.datum) l.key-iterator))) (pairs_part (pairs_of (map (entry_data g.T.Serialize.datum) l.values.entries)))
