use Rattle.qs_data.proofs.Common.{◌||◌, refl, ◌∙◌, rules, list_any, bytes_eq, string_bytes, members_in, is_member_name}
use Rattle.qs_data.proofs.Chains.{tests, YieldsList-from_slice, any_from_yields_List, same_from_clauses}
use Rattle.qs_data.proofs.data.plain.is_member_name.Goals as goal

pub returns : goal.returns
returns c =
    any_from_yields_List (λ m. bytes_eq (string_bytes m.0) c.args.name.now) _ _ _ c.any.ensures.ran (YieldsList-from_slice c.args.members.now cc) (λ x b q k. search (rules, tests))
    ∙ same_from_clauses (list_any (λ m. bytes_eq (string_bytes m.0) c.args.name.now)) (λ ms. is_member_name c.args.name.now (members_in ms)) (λ m b. bytes_eq (string_bytes m.0) c.args.name.now || b) refl (λ _ _. refl) (λ _ _. refl) c.args.members.now
