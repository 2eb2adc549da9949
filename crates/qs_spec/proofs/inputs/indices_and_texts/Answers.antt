use Rattle.std.proofs.Common.{refl, true, false, codes}
use Rattle.qs_spec.specs.Segment.Segment.{Int, Str}
use Rattle.qs_spec.specs.Tree.Tree.{mapping}
use Rattle.qs_spec.specs.Tree.Entries.{entry, no_entries}
use Rattle.qs_spec.specs.Worked.{text_leaf, at_text, only}
use Rattle.qs_spec.proofs.TreeOf.{is_tree}
use Rattle.qs_spec.proofs.inputs.indices_and_texts.Goals as goal

pub returns-clause-escaped_digit : goal.returns-clause-escaped_digit
returns-clause-escaped_digit c = is_tree false 5 (codes "1=a&%31=b") (mapping (entry (Int 1) false (text_leaf (codes "a")) (entry (Str (codes "1")) true (text_leaf (codes "b")) no_entries))) refl

pub returns-clause-leading_zero : goal.returns-clause-leading_zero
returns-clause-leading_zero c = is_tree false 5 (codes "01=x") (mapping (entry (Int 1) false (text_leaf (codes "x")) no_entries)) refl

pub returns-clause-greatest_index : goal.returns-clause-greatest_index
returns-clause-greatest_index c = is_tree false 5 (codes "a[4294967296]=p&a[4294967295]=q") (only (codes "a") (mapping (entry (Int 4294967295) false (text_leaf (codes "q")) (at_text (codes "4294967296") (text_leaf (codes "p")) no_entries)))) refl
