use Rattle.qs_data.proofs.Common.{None, Shape, ap, tree_of, variants_in, ◌∙◌}
use Rattle.qs_data.specs.declared.failure.expected.Expected.TheVariants as e
use Rattle.qs_data.specs.failure.Expected.{variant_names}
use Rattle.qs_data.proofs.lemmas.failure.Kinds.{said}
use Rattle.qs_data.proofs.failure.here.at_enum.Goals as goal

pub returns-in-Ok : goal.returns-in-Ok
returns-in-Ok c = λ none. said None (Shape.enumeration (variants_in c.args.variants.now.items)) (e.OneOf c.in-Ok.names) (tree_of c.args.node.now) c.args.error c.unfit.result none (c.in-Ok.ensures ∙ ap (λ vs. variant_names (variants_in vs)) c.deref.ensures.value) c.unfit.ensures
