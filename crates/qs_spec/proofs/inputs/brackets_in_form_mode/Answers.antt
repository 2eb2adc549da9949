use Rattle.std.proofs.Common.{refl, true, false, codes}
use Rattle.qs_spec.specs.Segment.Segment.{Str}
use Rattle.qs_spec.specs.Leaf.Leaf.{Text}
use Rattle.qs_spec.specs.Tree.Tree.{leaf, mapping}
use Rattle.qs_spec.specs.Tree.Entries.{entry, no_entries}
use Rattle.qs_spec.specs.Worked.{text_leaf, only}
use Rattle.qs_spec.proofs.TreeOf.{is_tree}
use Rattle.qs_spec.proofs.inputs.brackets_in_form_mode.Goals as goal

pub returns-clause-escaped : goal.returns-clause-escaped
returns-clause-escaped c = is_tree true 5 (codes "abc%5Bdef%5D=ghi") (only (codes "abc") (only (codes "def") (text_leaf (codes "ghi")))) refl

pub returns-clause-lower_case : goal.returns-clause-lower_case
returns-clause-lower_case c = is_tree true 5 (codes "abc%5bdef%5d=ghi") (mapping (entry (Str (codes "abc[def]")) true (text_leaf (codes "ghi")) no_entries)) refl

pub returns-clause-in_query_mode : goal.returns-clause-in_query_mode
returns-clause-in_query_mode c = is_tree false 5 (codes "abc%5Bdef%5D=ghi") (mapping (entry (Str (codes "abc[def]")) true (text_leaf (codes "ghi")) no_entries)) refl

pub returns-clause-as_they_are : goal.returns-clause-as_they_are
returns-clause-as_they_are c = is_tree true 5 (codes "a[b]=1") (only (codes "a") (only (codes "b") (text_leaf (codes "1")))) refl

pub returns-clause-in_a_value : goal.returns-clause-in_a_value
returns-clause-in_a_value c = is_tree true 5 (codes "a=%5B") (only (codes "a") (leaf (Text (codes "[") true))) refl
