use Rattle.std.proofs.Common.{sym, subst, Err}
use Rattle.serde_qs.specs.WrittenText.{ReturnsText}
use Rattle.serde_qs.proofs.TextWritten.{stop_returned, string_returned, text_is}
use Rattle.serde_qs.proofs.calls.writing.write_text.Goals as goal

pub string_of-requires : goal.string_of-requires
string_of-requires g c =
    (text_is c.args.config (g.T.Serialize.datum c.args.value.now) c.in_ok-writer.writer c.write_to.new.writer c.in_ok-writer.ensures c.into_text.result.items c.into_text.ensures c.in-Ok.ensures.written).2

pub returns-in-Ok : goal.returns-in-Ok
returns-in-Ok g c =
    let x = g.T.Serialize.datum c.args.value.now in
    let text = c.into_text.result.items in
    string_returned c.args.config x text c.string_of.result c.string_of.ensures
    (text_is c.args.config x c.in_ok-writer.writer c.write_to.new.writer c.in_ok-writer.ensures text c.into_text.ensures c.in-Ok.ensures.written)

pub returns-in-Err : goal.returns-in-Err
returns-in-Err g c =
    let x = g.T.Serialize.datum c.args.value.now in
    subst (λ e. ReturnsText c.args.config x (Err e)) (sym c.into_error.ensures)
    (stop_returned c.args.config x c.in_ok-writer.writer c.write_to.new.writer c.in_ok-writer.ensures c.in-Err.stop c.in-Err.ensures.written)
