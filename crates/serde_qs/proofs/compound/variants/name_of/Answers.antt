use Rattle.std.proofs.Common.{arith}
use Rattle.qs_data.proofs.lemmas.data.Levels.{data_of_struct_variant}
use Rattle.serde_qs.proofs.compound.variants.name_of.Goals as goal

pub returns-in-StructVariant : goal.returns-in-StructVariant
returns-in-StructVariant c = grind (arith, data_of_struct_variant)
