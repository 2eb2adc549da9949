use Rattle.std.proofs.Common.{length, sym, subst}
use Rattle.std.specs.Io.KnownBytes.{Appends}
use Rattle.std.proofs.Math.Seq.{take-length}
use Rattle.qs_tool.proofs.program.finish.Goals as goal

pub returns-in-Ok-clause-part : goal.returns-in-Ok-clause-part
returns-in-Ok-clause-part g c =
    let line = c.args.line.now in
    (length line, subst (Appends (g.W.Write.contents c.args.output.now.writer) (g.W.Write.contents c.write_all.new.output.writer)) (sym (take-length line)) c.in-Ok.ensures.whole)
