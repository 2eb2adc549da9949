use Rattle.std.proofs.Common.{refl}
use Rattle.serde.specs.Event.{text}
use Rattle.qs_serde.proofs.writing.serializer.TextSerializerSerializer.f32.Goals as goal

pub invariant_of-self : goal.invariant_of-self
invariant_of-self g c =
    let made = c.float-made.ensures in
    record { follows = c.keep.ensures.follows g.K.Settings.config c.args.self.now.position (text made.0) (made.0, refl) made.1 c.args.self.now.follows }

pub returns-clause-sent : goal.returns-clause-sent
returns-clause-sent g c = let made = c.float-made.ensures in (made.0, c.keep.ensures.sends c.args.self.now.position (text made.0) made.1)
