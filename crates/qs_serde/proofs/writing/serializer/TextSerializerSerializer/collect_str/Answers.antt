use Rattle.serde.specs.Event.{text}
use Rattle.qs_serde.proofs.writing.serializer.TextSerializerSerializer.collect_str.Goals as goal

pub invariant_of-self : goal.invariant_of-self
invariant_of-self g c =
    let made = c.printed-made.ensures in
    record { follows = c.keep.ensures.follows g.K.Settings.config c.args.self.now.position (text made.0) tt made.1 c.args.self.now.follows }

pub returns : goal.returns
returns g c = let made = c.printed-made.ensures in (made.0, c.keep.ensures.sends c.args.self.now.position (text made.0) made.1)
