use Rattle.std.proofs.Common.{◌≡◌, ap, sym, ◌∙◌, subst}
use Rattle.serde.specs.Spelling.{spelled}
use Rattle.serde.proofs.Spellings.{spelled-AsIs}
use Rattle.qs_serde.specs.Placed.{Arrives}
use Rattle.qs_serde.specs.Sent.{key_sent}
use Rattle.qs_serde.proofs.writing.logging.key.Goals as goal

pub returns-in-AsIs : goal.returns-in-AsIs
returns-in-AsIs c config s at =
    let name = c.args.name.now in
    let same : spelled c.args.case c.args.kind name ≡ name = ap (λ case. spelled case c.args.kind name) c.in-AsIs.is ∙ spelled-AsIs c.args.kind name in
    subst (λ bytes. Arrives (key_sent config bytes s) c.key.result config s.entries c.key.new.self) (c.as_bytes.ensures.value ∙ sym same) (c.key.ensures config s at)
