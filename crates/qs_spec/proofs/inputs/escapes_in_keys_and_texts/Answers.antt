use Rattle.std.proofs.Common.{refl, true, false, codes, [], ◌∷◌}
use Rattle.qs_spec.specs.Segment.Segment.{Str}
use Rattle.qs_spec.specs.Leaf.Leaf.{Text}
use Rattle.qs_spec.specs.Tree.Tree.{leaf, mapping}
use Rattle.qs_spec.specs.Tree.Entries.{entry, no_entries}
use Rattle.qs_spec.specs.Worked.{text_leaf, text_leaves, only}
use Rattle.qs_spec.proofs.TreeOf.{is_tree}
use Rattle.qs_spec.proofs.inputs.escapes_in_keys_and_texts.Goals as goal

pub returns-clause-plain_first : goal.returns-clause-plain_first
returns-clause-plain_first c = is_tree false 5 (codes "a=1&%61=2") (mapping (entry (Str (codes "a")) false (text_leaves (codes "1" ∷ codes "2" ∷ [])) no_entries)) refl

pub returns-clause-escaped_first : goal.returns-clause-escaped_first
returns-clause-escaped_first c = is_tree false 5 (codes "%61=1&a=2") (mapping (entry (Str (codes "a")) true (text_leaves (codes "1" ∷ codes "2" ∷ [])) no_entries)) refl

pub returns-clause-text : goal.returns-clause-text
returns-clause-text c = is_tree false 5 (codes "a=%2B+") (only (codes "a") (leaf (Text (codes "+ ") true))) refl

pub returns-clause-broken_escape : goal.returns-clause-broken_escape
returns-clause-broken_escape c = is_tree false 5 (codes "a=%") (only (codes "a") (leaf (Text (codes "%") true))) refl

pub returns-clause-plus_in_a_key : goal.returns-clause-plus_in_a_key
returns-clause-plus_in_a_key c = is_tree false 5 (codes "a+b=1") (mapping (entry (Str (codes "a b")) true (text_leaf (codes "1")) no_entries)) refl

pub returns-clause-plus_in_a_text : goal.returns-clause-plus_in_a_text
returns-clause-plus_in_a_text c = is_tree false 5 (codes "a=x+y") (only (codes "a") (leaf (Text (codes "x y") true))) refl
