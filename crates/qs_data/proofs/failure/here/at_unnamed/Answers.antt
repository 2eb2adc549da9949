use Rattle.qs_data.proofs.Common.{Shape, Some, ap, mapping, no_entries, segment_of_key, subst, variants_in, ◌∙◌}
use Rattle.qs_data.specs.declared.failure.expected.Expected.TheVariants as e
use Rattle.qs_data.specs.failure.Expected.{variant_names}
use Rattle.qs_data.specs.failure.Mismatch.{segment_of}
use Rattle.qs_data.specs.failure.internal.Failing.{SaysKey}
use Rattle.qs_data.proofs.lemmas.failure.Kinds.{said_key}
use Rattle.qs_data.proofs.failure.here.at_unnamed.Goals as goal

pub returns-in-Ok-of : goal.returns-in-Ok-of
returns-in-Ok-of c =
    let s = Shape.enumeration (variants_in c.args.variants.now.items) in
    subst (λ key. SaysKey key s c.args.error c.unexpected.result) c.in-Ok-of.ensures
    (said_key (segment_of c.in-Ok-of.segment) s (e.OneOf c.in-Ok.names) (mapping no_entries) c.args.error c.unexpected.result (c.in-Ok.ensures ∙ ap (λ vs. variant_names (variants_in vs)) c.deref.ensures.value) (c.unexpected.ensures no_entries))
