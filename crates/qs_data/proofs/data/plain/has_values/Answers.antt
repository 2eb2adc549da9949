use Rattle.qs_data.proofs.Common.{arith}
use Rattle.qs_data.proofs.lemmas.data.Counts.{some_values}
use Rattle.qs_data.proofs.data.plain.has_values.Goals as goal

pub returns : goal.returns
returns c = Prim.grind (arith, some_values)
