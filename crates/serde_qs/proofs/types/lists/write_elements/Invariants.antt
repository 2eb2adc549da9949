use Rattle.std.proofs.Common.{map, drop}
use Rattle.qs_spec.specs.Data.{values_of}
use Rattle.qs_data.specs.write.Parts.{elements_part}
use Rattle.qs_data.proofs.lemmas.write.Parts.{PartContinues}
use Rattle.serde_qs.proofs.types.lists.write_elements.Given as goal

abbrev pub invariant-loop-place : goal.invariant-loop-place
invariant-loop-place g l =
    PartContinues l.initial.writer l.writer (elements_part l.place (values_of (map g.T.Serialize.datum (drop l.place l.value-items)))) (elements_part 0 (values_of (map g.T.Serialize.datum l.value-items)))
