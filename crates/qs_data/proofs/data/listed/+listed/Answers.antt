use Rattle.qs_data.proofs.Common.{arith}
use Rattle.qs_data.proofs.lemmas.data.Levels.{levels}
use Rattle.qs_data.proofs.data.listed.+listed.Goals as goal

pub is_listed-returns-in-Struct : goal.is_listed-returns-in-Struct
is_listed-returns-in-Struct t c = Prim.grind (arith, levels)
