use Rattle.std.proofs.Common.{Err, subst, sym}
use Rattle.qs_data.specs.write.Parts.{WritesPart, data_part}
use Rattle.qs_data.proofs.lemmas.write.Parts.{part_exit, part_out_of_memory}
use Rattle.serde_qs.proofs.parts.write_made.Goals as goal

pub returns-in_err-datum : goal.returns-in_err-datum
returns-in_err-datum c = λ x h.
    let a = c.args.writer.now in
    let e = c.in_err-datum.field-0.0 in
    part_exit _ e a a (data_part x) c.from_residual.ensures.1 (subst (λ s. WritesPart (Err s) a a (data_part x)) (sym c.in_err-datum.ensures) (part_out_of_memory a (data_part x)))
