use Rattle.std.proofs.Common.{subst}
use Rattle.std.proofs.lemmas.Result.{err_from_is_err_and}
use Rattle.qs_spec.specs.Config.{Config}
use Rattle.qs_spec.specs.Shape.{Shape}
use Rattle.qs_spec.specs.Relation.{ReadsNothing}
use Rattle.qs_data.specs.read.Parsed.{parsed_of}
use Rattle.qs_tool.specs.Line.IsFaultyBy.{not_read}
use Rattle.qs_tool.proofs.Errors.{nothing_read}
use Rattle.qs_tool.proofs.printing.printed_any.Goals as goal

pub returns-in_err-value-clause-fault : goal.returns-in_err-value-clause-fault
returns-in_err-value-clause-fault c =
    let p = err_from_is_err_and c.from_residual-in_err-value.result c.from_residual-in_err-value.ensures.1 in
    let parsed = parsed_of c.in_ok-deserializer.deserializer in
    let made = c.in_ok-deserializer.ensures in
    let P : Config → Type 0 = λ config. ReadsNothing config Shape.any parsed.tree in
    rw (p.1, p.2) (λ other. not_read parsed.tree made.tree (subst P made.config (nothing_read parsed Shape.any c.in_err-value.field-0.0 c.in_err-value.ensures.exact other)))
