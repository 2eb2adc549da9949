use Rattle.std.proofs.Common.{rules}
use Rattle.std.specs.Char.{IsScalar}
use Rattle.serde_qs.proofs.InRange.{character_fitting}
use Rattle.serde_qs.proofs.PartsWritten.{character_written}
use Rattle.serde_qs.proofs.types.scalars.CharSerialize.write_to.Goals as goal

pub returns : goal.returns
returns c =
    let s : IsScalar c.args.self.now = search rules in
    record { written = character_written c.scalar.result c.args.writer.now c.scalar.new.self _ c.args.self.now (character_fitting c.args.self.now s) c.scalar.ensures }
