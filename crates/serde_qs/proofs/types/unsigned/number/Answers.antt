use Rattle.serde_qs.proofs.InRange.{unsigned_made}
use Rattle.serde_qs.proofs.types.unsigned.number.Goals as goal

pub returns : goal.returns
returns c = unsigned_made c.args._width c.args.value c.requires
