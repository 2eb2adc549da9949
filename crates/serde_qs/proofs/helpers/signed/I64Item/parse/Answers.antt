use Rattle.std.proofs.Common.{true, w64, refl, arith}
use Rattle.qs_spec.specs.Scalar.{signed_number}
use Rattle.qs_data.proofs.lemmas.read.Errors.{custom}
use Rattle.serde_qs.proofs.NumberItems.{signed_read, signed_unread}
use Rattle.serde_qs.proofs.helpers.signed.I64Item.parse.Goals as goal

pub returns-in-Ok : goal.returns-in-Ok
returns-in-Ok c = signed_read w64 64 c.args.text.now c.in-Ok.number refl c.in-Ok.ensures.value.0

pub returns-in-Err : goal.returns-in-Err
returns-in-Err c =
    let t = c.args.text.now in
    custom true c.invalid.result (signed_number 64 t) c.invalid.ensures (signed_unread w64 64 t refl (omega arith) c.in-Err.ensures.value.0)
