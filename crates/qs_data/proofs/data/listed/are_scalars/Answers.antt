use Rattle.qs_data.proofs.Common.{◌&&◌, refl, ◌∙◌, rules, list_all, key_text, data_of, values_in, are_scalars}
use Rattle.qs_data.proofs.Chains.{tests, YieldsList-from_slice, all_from_yields_List, same_from_clauses}
use Rattle.qs_spec.specs.Listed.{has_text}
use Rattle.qs_data.proofs.data.listed.are_scalars.Goals as goal

pub returns : goal.returns
returns c =
    all_from_yields_List (λ d. has_text (key_text (data_of d))) _ _ _ c.all.ensures.ran (YieldsList-from_slice c.args.items.now cc) (λ x b q k. search (rules, tests))
    ∙ same_from_clauses (list_all (λ d. has_text (key_text (data_of d)))) (λ ds. are_scalars (values_in ds)) (λ d b. has_text (key_text (data_of d)) && b) refl (λ _ _. refl) (λ _ _. refl) c.args.items.now
