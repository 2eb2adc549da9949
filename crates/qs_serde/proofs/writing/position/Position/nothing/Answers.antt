use Rattle.std.proofs.Common.{ap}
use Rattle.qs_serde.specs.Sent.{nothing_at}
use Rattle.qs_serde.specs.declared.writing.frame.Next.TheVariants.{Flattened, Value}
use Rattle.qs_serde.proofs.Positions.{coming, next_is, stands_at}
use Rattle.qs_serde.proofs.writing.position.Position.nothing.Goals as goal

pub returns-in-Flattened : goal.returns-in-Flattened
returns-in-Flattened c config s at =
    let p = c.args.self.now in
    let h = stands_at config s p at Flattened tt c.in-Flattened.is in
    (record { entries = s.entries; here = s.here; around = s.around; next = Value }, ap (λ m. nothing_at m config s) (next_is config s p Flattened h c.in-Flattened.is), coming config s p Value h)
