use Rattle.std.proofs.Common.{SFits, ap, rules, subst, ◌∙◌}
use Rattle.std.specs.Int.{w128}
use Rattle.std.proofs.lemmas.Int.{to_z-of_z}
use Rattle.std.specs.Fmt.{signed_decimal}
use Rattle.serde.specs.Event.{signed}
use Rattle.qs_serde.specs.Placed.{Moves}
use Rattle.qs_serde.specs.Sent.{text_sent}
use Rattle.qs_serde.proofs.writing.serializer.TextSerializerSerializer.i128.Goals as goal

pub returns-clause-sent : goal.returns-clause-sent
returns-clause-sent g c =
    let before = c.args.self.now.position in
    let fits : SFits w128 c.args.v = search rules in
    c.keep.ensures.sends before (signed c.args.v)
    (subst (λ t. Moves (λ config s. text_sent config t s) c.scalar-made.result before c.scalar-made.new.self) (c.as_bytes.ensures.value ∙ c.format.ensures.text ∙ ap signed_decimal (to_z-of_z w128 c.args.v fits)) c.scalar-made.ensures)
