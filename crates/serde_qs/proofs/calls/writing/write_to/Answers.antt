use Rattle.std.proofs.Common.{◌∙◌, ap, refl, Some}
use Rattle.serde_qs.proofs.TextWritten.{bad_key_put, nothing_put, ok_put, too_deep_put}
use Rattle.serde_qs.proofs.calls.writing.write_to.Goals as goal

pub returns-in_err-text : goal.returns-in_err-text
returns-in_err-text g c = nothing_put c.args.config (g.T.Serialize.datum c.args.value.now) (g.W.Write.contents c.args.writer.now) _ c.from_residual.ensures.1

pub returns-in-Ok : goal.returns-in-Ok
returns-in-Ok g c =
    ok_put c.args.config (g.T.Serialize.datum c.args.value.now) c.in_ok-text.text c.write_to.new.writer c.in_ok-text.ensures _ (ap Some c.deref.ensures.value ∙ c.into_text.ensures) _ _ _
    c.in-Ok.ensures.written c.put.ensures

pub returns-in-Err-TooDeep : goal.returns-in-Err-TooDeep
returns-in-Err-TooDeep g c =
    let written = rw c.in-Err-TooDeep.field-0-is at c.in-Err-TooDeep.ensures.written in
    too_deep_put c.args.config (g.T.Serialize.datum c.args.value.now) c.in_ok-text.text c.write_to.new.writer c.in_ok-text.ensures _ (ap Some c.deref-in-Err-TooDeep.ensures.value ∙ c.into_text-in-Err-TooDeep.ensures) _ _
    _ _ c.get_max_depth.ensures written c.put-in-Err-TooDeep.ensures

pub returns-in-Err-BadKey : goal.returns-in-Err-BadKey
returns-in-Err-BadKey g c =
    let written = rw c.in-Err-BadKey.field-0-is at c.in-Err-BadKey.ensures.written in
    bad_key_put c.args.config (g.T.Serialize.datum c.args.value.now) c.in_ok-text.text c.write_to.new.writer c.in_ok-text.ensures _ (ap Some c.deref-in-Err-BadKey.ensures.value ∙ c.into_text-in-Err-BadKey.ensures) _ _ _
    written c.put-in-Err-BadKey.ensures

pub returns-in-Err-Io : goal.returns-in-Err-Io
returns-in-Err-Io g c = nothing_put c.args.config (g.T.Serialize.datum c.args.value.now) (g.W.Write.contents c.args.writer.now) _ refl
