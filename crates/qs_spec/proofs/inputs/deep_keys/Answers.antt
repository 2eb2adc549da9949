use Rattle.std.proofs.Common.{refl, false, codes, [], ◌∷◌}
use Rattle.qs_spec.specs.Leaf.Leaf.{NoValue}
use Rattle.qs_spec.specs.Tree.Tree.{leaf, mapping}
use Rattle.qs_spec.specs.Tree.Entries.{no_entries}
use Rattle.qs_spec.specs.Worked.{text_leaf, text_leaves, at_text, only}
use Rattle.qs_spec.proofs.TreeOf.{is_tree, no_tree}
use Rattle.qs_spec.proofs.inputs.deep_keys.Goals as goal

pub returns-clause-last_key : goal.returns-clause-last_key
returns-clause-last_key c = is_tree false 5 (codes "a[b][c][d][e][f][g][h]=i") (only (codes "a") (only (codes "b") (only (codes "c") (only (codes "d") (only (codes "e") (only (codes "f") (only (codes "[g][h]") (text_leaf (codes "i"))))))))) refl

pub returns-clause-equals_in_the_last_key : goal.returns-clause-equals_in_the_last_key
returns-clause-equals_in_the_last_key c = is_tree false 1 (codes "a[b][=1&c") (mapping (at_text (codes "a") (only (codes "b") (only (codes "[=1") (leaf NoValue))) (at_text (codes "c") (leaf NoValue) no_entries))) refl

pub returns-clause-equals_after_the_last_key : goal.returns-clause-equals_after_the_last_key
returns-clause-equals_after_the_last_key c = is_tree false 1 (codes "a[b][c=1") (only (codes "a") (only (codes "b") (only (codes "[c") (text_leaf (codes "1"))))) refl

pub returns-clause-ampersand_in_brackets : goal.returns-clause-ampersand_in_brackets
returns-clause-ampersand_in_brackets c = is_tree false 5 (codes "a[b&c]=1") (only (codes "a") (only (codes "b&c") (text_leaf (codes "1")))) refl

pub returns-clause-bracket_in_brackets : goal.returns-clause-bracket_in_brackets
returns-clause-bracket_in_brackets c = is_tree false 5 (codes "a[[]=1") (only (codes "a") (only (codes "[") (text_leaf (codes "1")))) refl

pub returns-clause-text_after_brackets : goal.returns-clause-text_after_brackets
returns-clause-text_after_brackets c = no_tree false 5 (codes "a[b]c=1") refl

pub returns-clause-open_bracket : goal.returns-clause-open_bracket
returns-clause-open_bracket c = no_tree false 5 (codes "a[b") refl

pub returns-clause-push_at_the_limit : goal.returns-clause-push_at_the_limit
returns-clause-push_at_the_limit c = is_tree false 1 (codes "a[b][]=1") (only (codes "a") (only (codes "b") (text_leaves (codes "1" ∷ [])))) refl

pub returns-clause-no_depth : goal.returns-clause-no_depth
returns-clause-no_depth c = is_tree false 0 (codes "a[b]=1") (only (codes "a[b]") (text_leaf (codes "1"))) refl

pub returns-clause-ampersand_first_in_the_last_key : goal.returns-clause-ampersand_first_in_the_last_key
returns-clause-ampersand_first_in_the_last_key c = is_tree false 1 (codes "a[b][&c]=1") (only (codes "a") (only (codes "b") (only (codes "[&c]") (text_leaf (codes "1"))))) refl

pub returns-clause-closing_bracket_in_a_root_key : goal.returns-clause-closing_bracket_in_a_root_key
returns-clause-closing_bracket_in_a_root_key c = is_tree false 5 (codes "a]=1") (only (codes "a]") (text_leaf (codes "1"))) refl

pub returns-clause-text_after_a_push : goal.returns-clause-text_after_a_push
returns-clause-text_after_a_push c = no_tree false 5 (codes "a[]x=1") refl

pub returns-clause-bracket_after_a_push : goal.returns-clause-bracket_after_a_push
returns-clause-bracket_after_a_push c = no_tree false 5 (codes "a[][b]=1") refl
