use Rattle.qs_data.proofs.Common.{arith}
use Rattle.std.proofs.lemmas.List.Sums.{sum_by_push}
use Rattle.qs_data.proofs.data.data.Data.discard.Goals as goal

pub loop-datum-smaller-in-Some-into_parts : goal.loop-datum-smaller-in-Some-into_parts
loop-datum-smaller-in-Some-into_parts c = Prim.grind (arith, sum_by_push)

pub loop-datum-smaller : goal.loop-datum-smaller
loop-datum-smaller c = Prim.grind (arith, sum_by_push)
