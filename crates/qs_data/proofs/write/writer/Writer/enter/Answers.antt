use Rattle.qs_data.proofs.Common.{refl, scalar_text}
use Rattle.qs_data.proofs.lemmas.write.Parts.{part_entering}
use Rattle.qs_data.proofs.write.writer.Writer.enter.Goals as goal

pub returns-in-Err-clause-err : goal.returns-in-Err-clause-err
returns-in-Err-clause-err c =
    let now = c.args.self.now in
    part_entering c.in-Err.stop now (record { alloc = now.alloc; config = now.config; stream = now.stream; walk = c.enter.new.self }) (scalar_text c.args.segment) refl refl (c.in-Err.ensures.err now.config)
