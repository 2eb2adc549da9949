use Rattle.std.proofs.Common.{sym, subst}
use Rattle.qs_serde.specs.Texts.{IsTextOf, IsTextOfEntries}
use Rattle.qs_serde.specs.Halts.{HasFailed, IsFinish}
use Rattle.qs_serde.proofs.Written.{nothing_put, nothing_put_exit, put_text, were_written}
use Rattle.qs_serde.proofs.calls.write.write_to.Goals as goal

pub returns-in_err-serializer : goal.returns-in_err-serializer
returns-in_err-serializer g c = nothing_put_exit g.K.Settings.config (g.T.Described.writes c.args.value.now) (g.W.Write.contents c.args.writer.now) _ _ c.from_residual.ensures.1

pub returns-in-Err-OutOfMemory : goal.returns-in-Err-OutOfMemory
returns-in-Err-OutOfMemory g c =
    nothing_put g.K.Settings.config (g.T.Described.writes c.args.value.now) (g.W.Write.contents c.args.writer.now) c.finished-made.result c.in-Err-OutOfMemory.field-0 c.in-Err-OutOfMemory.is

pub returns : goal.returns
returns g c =
    let config = g.K.Settings.config in
    let log = c.serialize-sent.new.out.log.events in
    let failed = HasFailed c.serialize-sent.new.out.position in
    let finish : IsFinish config failed c.serialize-sent.result c.finished-made.result = subst (λ k. IsFinish k failed c.serialize-sent.result c.finished-made.result) c.requires c.finished-made.ensures in
    put_text config failed (g.T.Described.writes c.args.value.now) c.in_ok-serializer.serializer.log.events log c.deref.result.now c.in_ok-serializer.ensures
    (λ whole. subst (IsTextOf config log) (sym c.deref.ensures.value) (c.into_text.ensures.events whole)) (subst (IsTextOfEntries config) (sym c.deref.ensures.value) c.into_text.ensures.entries)
    (g.W.Write.contents c.args.writer.now) (g.W.Write.contents c.put.new.writer) c.finished-made.result c.put.result
    (were_written config failed _ c.serialize-sent.result c.finished-made.result finish c.serialize-sent.ensures) c.put.ensures
