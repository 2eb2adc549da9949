use Rattle.serde_qs.proofs.InRange.{unsigned_fitting}
use Rattle.serde_qs.proofs.PartsWritten.{unsigned_written}
use Rattle.serde_qs.proofs.types.unsigned.write_number.Goals as goal

pub returns : goal.returns
returns c =
    unsigned_written c.scalar.result c.args.writer.now c.scalar.new.self _ c.args.value (unsigned_fitting c.args._width c.args.value c.requires) c.scalar.ensures
