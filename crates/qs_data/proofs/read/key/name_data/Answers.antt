use Rattle.qs_data.proofs.Common.{arith, common_steps}
use Rattle.qs_data.proofs.read.key.name_data.Goals as goal

pub loop-name-preserved : goal.loop-name-preserved
loop-name-preserved c = Prim.grind (arith, common_steps)

pub returns : goal.returns
returns c = Prim.grind (arith, common_steps)
