use Rattle.qs_data.proofs.Common.{◌≡◌, ℕ, List, drop, is_variant_name, variant_names_differ, variants_in}
use Rattle.qs_data.specs.data.internal.Texts.{holds_text}
use Rattle.qs_data.proofs.shape.distinct.many_variant_names_differ.Given as goal

abbrev pub invariant-loop-i : goal.invariant-loop-i
invariant-loop-i l = (l.differ ≡ variant_names_differ (variants_in (drop l.i l.variants))) × ((t : List ℕ) → holds_text l.names t ≡ is_variant_name t (variants_in (drop l.i l.variants)))
