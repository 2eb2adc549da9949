use Rattle.std.proofs.Common.{ap}
use Rattle.qs_serde.specs.Sent.{key_ended_at}
use Rattle.qs_serde.specs.declared.writing.frame.Next.TheVariants.{Key, Value}
use Rattle.qs_serde.proofs.Positions.{coming, next_is, stands_at}
use Rattle.qs_serde.proofs.writing.position.Position.end_key.Goals as goal

pub returns-in-Key : goal.returns-in-Key
returns-in-Key c config s at =
    let p = c.args.self.now in
    let h = stands_at config s p at Key tt c.in-Key.is in
    (record { entries = s.entries; here = s.here; around = s.around; next = Value }, ap (λ m. key_ended_at m s) (next_is config s p Key h c.in-Key.is), coming config s p Value h)
