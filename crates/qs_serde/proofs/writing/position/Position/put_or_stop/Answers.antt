use Rattle.std.proofs.Common.{refl, subst, inr}
use Rattle.qs_data.specs.write.Parts.{WritesPart}
use Rattle.qs_spec.specs.Entry.{one}
use Rattle.qs_serde.specs.Sent.{adds, puts}
use Rattle.qs_serde.proofs.Positions.{failed, wrote}
use Rattle.qs_serde.proofs.writing.position.Position.put_or_stop.Goals as goal

pub returns-in-Ok : goal.returns-in-Ok
returns-in-Ok c before value same w config s h =
    (puts value s, refl, c.end.ensures config (adds value s) (wrote config s before value h c.args.self.now same (subst (λ r. WritesPart r before.writer c.args.self.now.writer (λ config path. one path value)) c.in-Ok.is w)))

pub returns-in-Err : goal.returns-in-Err
returns-in-Err c before value same w config s h =
    let f = failed config s before value h c.in-Err.stop c.args.self.now.writer c.take.new.self
    (subst (λ r. WritesPart r before.writer c.args.self.now.writer (λ config path. one path value)) c.in-Err.is w) c.take.ensures.left in
    inr (f.0, inr f.1)
