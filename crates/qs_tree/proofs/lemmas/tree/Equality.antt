-- When two keys and two values are equal: where their segments and their trees are, ignoring escapes.
use Rattle.qs_tree.proofs.Common.{◌≡◌, IsTrue, ◌↔◌, ap, sym, ◌∙◌, is_eq, is_same_segment, ignoring_escapes, is_itself, same_segment, Key, ParsedValue, Equal, Equal-is, key_cmp, key_eq, value_eq, segment_of_key, tree_of, matches_eq-law, total-law}
use Rattle.qs_tree.specs.internal.tree.EqualityLaws.{same_trees}
use Rattle.qs_tree.proofs.lemmas.tree.Keys.{key_cmp-segments}

pub key_eq-segments : (a b : Key) → key_eq a b ≡ is_same_segment (segment_of_key a) (segment_of_key b)
key_eq-segments a b = matches_eq-law a b ∙ ap is_eq (key_cmp-segments a b)

pub equal_keys : (a b : Key) → IsTrue (key_eq a b) ↔ segment_of_key a ≡ segment_of_key b
equal_keys a b = (λ e. same_segment _ _ (sym (key_eq-segments a b) ∙ e), λ e. key_eq-segments a b ∙ ap (is_same_segment (segment_of_key a)) (sym e) ∙ is_itself (segment_of_key a))

pub equal_values : (a b : ParsedValue) → IsTrue (value_eq a b) ↔ ignoring_escapes (tree_of a) ≡ ignoring_escapes (tree_of b)
equal_values a b = same_trees (tree_of a) (tree_of b)

pub equal_in_order : (a b : Key) → IsTrue (key_eq a b) ↔ key_cmp a b ≡ Equal
equal_in_order a b = (λ e. (Equal-is (key_cmp a b)).0 (sym (matches_eq-law a b) ∙ e), λ e. matches_eq-law a b ∙ (Equal-is (key_cmp a b)).1 e)

pub ruleset order = (key_cmp-segments, total-law)
