use Rattle.std.proofs.Common.{arith}
use Rattle.qs_data.proofs.lemmas.data.Levels.{data_of_struct_variant}
use Rattle.serde_qs.proofs.Levels.{back_reverse}
use Rattle.serde_qs.proofs.compound.structs.variant_fields.Goals as goal

pub returns : goal.returns
returns g c = grind (arith, data_of_struct_variant, back_reverse)
