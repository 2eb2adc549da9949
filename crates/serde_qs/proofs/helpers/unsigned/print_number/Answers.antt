use Rattle.serde_qs.proofs.InRange.{unsigned_in_range}
use Rattle.serde_qs.proofs.helpers.unsigned.print_number.Goals as goal

pub returns-clause-valid : goal.returns-clause-valid
returns-clause-valid c = unsigned_in_range c.args._width c.args.number c.requires
