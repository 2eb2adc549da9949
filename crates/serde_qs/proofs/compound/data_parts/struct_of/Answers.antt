use Rattle.std.proofs.Common.{arith}
use Rattle.qs_data.proofs.lemmas.data.Levels.{data_of_struct}
use Rattle.serde_qs.proofs.compound.data_parts.struct_of.Goals as goal

pub returns-clause-exact : goal.returns-clause-exact
returns-clause-exact g c = grind (arith, data_of_struct)
