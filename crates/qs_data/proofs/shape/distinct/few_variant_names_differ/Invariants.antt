use Rattle.qs_data.proofs.Common.{◌≡◌, drop, variant_names_differ, variants_in}
use Rattle.qs_data.proofs.shape.distinct.few_variant_names_differ.Given as goal

abbrev pub invariant-loop-i : goal.invariant-loop-i
invariant-loop-i l = variant_names_differ (variants_in l.variants) ≡ variant_names_differ (variants_in (drop l.i l.variants))
