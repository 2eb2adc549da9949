use Rattle.std.proofs.Common.{refl, false, codes, [], ◌∷◌}
use Rattle.qs_spec.specs.Tree.Tree.{mapping}
use Rattle.qs_spec.specs.Tree.Entries.{no_entries}
use Rattle.qs_spec.specs.Worked.{text_leaf, text_leaves, at_text, only}
use Rattle.qs_spec.proofs.TreeOf.{is_tree, no_tree}
use Rattle.qs_spec.proofs.inputs.repeated_keys.Goals as goal

pub returns-clause-values_and_a_push : goal.returns-clause-values_and_a_push
returns-clause-values_and_a_push c = is_tree false 5 (codes "a=1&a=2&a[]=3") (only (codes "a") (text_leaves (codes "1" ∷ codes "2" ∷ codes "3" ∷ []))) refl

pub returns-clause-pushes : goal.returns-clause-pushes
returns-clause-pushes c = is_tree false 5 (codes "a[]=1&b=x&a[]=2") (mapping (at_text (codes "a") (text_leaves (codes "1" ∷ codes "2" ∷ [])) (at_text (codes "b") (text_leaf (codes "x")) no_entries))) refl

pub returns-clause-push_onto_a_value : goal.returns-clause-push_onto_a_value
returns-clause-push_onto_a_value c = no_tree false 5 (codes "a=1&a[]=2") refl

pub returns-clause-value_after_a_push : goal.returns-clause-value_after_a_push
returns-clause-value_after_a_push c = is_tree false 5 (codes "a[]=1&a=2") (only (codes "a") (text_leaves (codes "1" ∷ codes "2" ∷ []))) refl
