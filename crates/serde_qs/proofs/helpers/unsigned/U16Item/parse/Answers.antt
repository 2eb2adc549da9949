use Rattle.std.proofs.Common.{true}
use Rattle.qs_spec.specs.Scalar.{unsigned_number}
use Rattle.qs_data.proofs.lemmas.read.Errors.{custom}
use Rattle.serde_qs.proofs.NumberItems.{unsigned_read, unsigned_unread}
use Rattle.serde_qs.proofs.helpers.unsigned.U16Item.parse.Goals as goal

pub returns-in-Ok : goal.returns-in-Ok
returns-in-Ok c = unsigned_read 16 c.args.text.now c.in-Ok.number c.in-Ok.ensures.value.0

pub returns-in-Err : goal.returns-in-Err
returns-in-Err c =
    let t = c.args.text.now in
    custom true c.invalid.result (unsigned_number 16 t) c.invalid.ensures (unsigned_unread 16 t c.in-Err.ensures.value.0)
