use Rattle.std.proofs.Common.{◌≡◌, ap, sym, ◌∙◌, subst}
use Rattle.serde.specs.Spelling.{spelled}
use Rattle.serde.specs.declared.name.NameKind.TheVariants.{Variant}
use Rattle.serde.proofs.Spellings.{spelled-AsIs}
use Rattle.qs_serde.specs.Placed.{Arrives}
use Rattle.qs_serde.specs.Sent.{text_sent}
use Rattle.qs_serde.proofs.writing.logging.variant.Goals as goal

pub returns-in-AsIs : goal.returns-in-AsIs
returns-in-AsIs c config s at =
    let name = c.args.name.now in
    let same : spelled c.args.case Variant name ≡ name = ap (λ case. spelled case Variant name) c.in-AsIs.is ∙ spelled-AsIs Variant name in
    subst (λ bytes. Arrives (text_sent config bytes s) c.scalar.result config s.entries c.scalar.new.self) (c.as_bytes.ensures.value ∙ sym same) (c.scalar.ensures config s at)
