use Rattle.qs_data.proofs.Common.{◌||◌, refl, ◌∙◌, rules, list_any, bytes_eq, variant_of, variants_in, is_variant_name}
use Rattle.qs_data.proofs.Chains.{tests, YieldsList-from_slice, any_from_yields_List, same_from_clauses}
use Rattle.qs_data.specs.declared.shape.shape.Variant as v
use Rattle.qs_data.proofs.shape.distinct.is_variant_name.Goals as goal

pub returns : goal.returns
returns c =
    any_from_yields_List (λ v. bytes_eq (variant_of v).0 c.args.name.now) _ _ _ c.any.ensures.ran (YieldsList-from_slice c.args.variants.now cc) (λ x b q k. search (rules, tests, v.the_lemmas))
    ∙ same_from_clauses (list_any (λ v. bytes_eq (variant_of v).0 c.args.name.now)) (λ vs. is_variant_name c.args.name.now (variants_in vs)) (λ v b. bytes_eq (variant_of v).0 c.args.name.now || b) refl (λ _ _. refl) (λ _ _. refl) c.args.variants.now
