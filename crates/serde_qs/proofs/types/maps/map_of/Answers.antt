use Rattle.std.proofs.Common.{arith}
use Rattle.serde_qs.proofs.PairsPut.{values_none}
use Rattle.serde_qs.proofs.types.maps.map_of.Goals as goal

pub loop-key-init : goal.loop-key-init
loop-key-init g c = grind (arith, values_none)
