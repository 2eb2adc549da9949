use Rattle.std.proofs.Common.{refl, false, codes, [], ◌∷◌}
use Rattle.qs_spec.specs.Tree.Tree.{mapping}
use Rattle.qs_spec.specs.Tree.Entries.{no_entries}
use Rattle.qs_spec.specs.Worked.{text_leaf, text_leaves, at_text, only}
use Rattle.qs_spec.proofs.TreeOf.{is_tree, no_tree}
use Rattle.qs_spec.proofs.inputs.values_beside_maps.Goals as goal

pub returns-clause-value_after : goal.returns-clause-value_after
returns-clause-value_after c = is_tree false 5 (codes "a[b]=1&a=2") (only (codes "a") (mapping (at_text [] (text_leaf (codes "2")) (at_text (codes "b") (text_leaf (codes "1")) no_entries)))) refl

pub returns-clause-value_before : goal.returns-clause-value_before
returns-clause-value_before c = no_tree false 5 (codes "a=2&a[b]=1") refl

pub returns-clause-nothing_before : goal.returns-clause-nothing_before
returns-clause-nothing_before c = no_tree false 5 (codes "a=&a[b]=1") refl

pub returns-clause-push_before : goal.returns-clause-push_before
returns-clause-push_before c = no_tree false 5 (codes "a[]=1&a[b]=2") refl

pub returns-clause-value_at_the_root : goal.returns-clause-value_at_the_root
returns-clause-value_at_the_root c = no_tree false 5 (codes "=1&a=2") refl

pub returns-clause-values_after : goal.returns-clause-values_after
returns-clause-values_after c = is_tree false 5 (codes "a[b]=1&a=2&a=3") (only (codes "a") (mapping (at_text [] (text_leaves (codes "2" ∷ codes "3" ∷ [])) (at_text (codes "b") (text_leaf (codes "1")) no_entries)))) refl

pub returns-clause-value_after_at_the_root : goal.returns-clause-value_after_at_the_root
returns-clause-value_after_at_the_root c = is_tree false 5 (codes "b=1&=2") (mapping (at_text [] (text_leaf (codes "2")) (at_text (codes "b") (text_leaf (codes "1")) no_entries))) refl

pub returns-clause-push_after : goal.returns-clause-push_after
returns-clause-push_after c = no_tree false 5 (codes "a[b]=1&a[]=2") refl
