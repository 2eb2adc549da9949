use Rattle.qs_data.proofs.Common.{◌≡◌, ◌∙◌, ap, false, field_of, is_option, subst, sym, uninitialized}
use Rattle.qs_spec.specs.Segment.Segment.{Str}
use Rattle.qs_data.specs.failure.internal.Failing.{IsHere, IsMissing, IsUnder}
use Rattle.qs_data.proofs.lemmas.failure.Failures.{below_missing}
use Rattle.qs_data.proofs.lemmas.read.Fields.{field_name, field_optional, field_shape}
use Rattle.qs_data.proofs.read.fields.missing_field.Goals as goal

pub returns-else-is_option-clause-fails : goal.returns-else-is_option-clause-fails
returns-else-is_option-clause-fails c =
    let d = c.args.field.now in
    let f = field_of d in
    let h = c.at_missing.result in
    let g = c.at_name.result in
    let required : f.2 ≡ false = field_optional d ∙ c.if-field.false in
    let full : is_option f.1 ≡ false = ap is_option (field_shape d) ∙ sym c.if-is_option.ensures in
    let step = subst (λ x. IsUnder (Str x) h g) (c.deref-else-is_option.ensures ∙ sym (field_name d)) c.at_name.ensures in
    below_missing c.args.reader.reject_duplicates (IsMissing f.0 f.1 f.2) (Str f.0) f.1 c.error-error.result h g (subst (λ s. IsHere s uninitialized c.error-error.result h) (sym (field_shape d)) c.at_missing.ensures) step
    (IsMissing.missing required full)
