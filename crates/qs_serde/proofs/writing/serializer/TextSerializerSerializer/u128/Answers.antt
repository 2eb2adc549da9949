use Rattle.std.proofs.Common.{subst, ◌∙◌}
use Rattle.serde.specs.Event.{unsigned}
use Rattle.qs_serde.specs.Placed.{Moves}
use Rattle.qs_serde.specs.Sent.{text_sent}
use Rattle.qs_serde.proofs.writing.serializer.TextSerializerSerializer.u128.Goals as goal

pub returns-clause-sent : goal.returns-clause-sent
returns-clause-sent g c =
    let before = c.args.self.now.position in
    c.keep.ensures.sends before (unsigned c.args.v) (subst (λ t. Moves (λ config s. text_sent config t s) c.scalar-made.result before c.scalar-made.new.self) (c.as_bytes.ensures.value ∙ c.format.ensures.text) c.scalar-made.ensures)
