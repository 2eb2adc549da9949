use Rattle.std.proofs.Common.{refl, ap, Some}
use Rattle.qs_serde.specs.Sent.{at_value}
use Rattle.qs_serde.specs.declared.writing.frame.Next.TheVariants.{Flattened, Value}
use Rattle.qs_serde.proofs.Positions.{coming, next_is, stands_at}
use Rattle.qs_serde.proofs.writing.position.Position.flatten.Goals as goal

pub returns : goal.returns
returns c config s at =
    let p = c.args.self.now in
    let value = c.in_ok-value_comes.ensures.0 refl in
    let h = stands_at config s p at Value tt value in
    (record { entries = s.entries; here = s.here; around = s.around; next = Flattened }, ap (λ m. at_value m (Some (record { entries = s.entries; here = s.here; around = s.around; next = Flattened }))) (next_is config s p Value h value), coming config s p Flattened h)
