use Rattle.serde_qs.proofs.PartsWritten.{no_member}
use Rattle.serde_qs.proofs.compound.references.UnitReferences.write_members.Goals as goal

pub returns : goal.returns
returns c = record { written = no_member c.args._writer.now }
