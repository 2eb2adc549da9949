use Rattle.std.proofs.Common.{refl}
use Rattle.qs_spec.proofs.OnLiterals.{on_literals}
use Rattle.qs_spec.proofs.Worked.{is_read}
use Rattle.qs_spec.proofs.shapes.unknown_keys.Goals as goal

pub returns-clause-known : goal.returns-clause-known
unfolding on_literals
returns-clause-known c = is_read _ _ _ _ refl refl

pub returns-clause-unknown : goal.returns-clause-unknown
unfolding on_literals
returns-clause-unknown c = is_read _ _ _ _ refl refl

pub returns-clause-ignored : goal.returns-clause-ignored
unfolding on_literals
returns-clause-ignored c = is_read _ _ _ _ refl refl

pub returns-clause-as_many_as_fields : goal.returns-clause-as_many_as_fields
unfolding on_literals
returns-clause-as_many_as_fields c = is_read _ _ _ _ refl refl

pub returns-clause-left_out : goal.returns-clause-left_out
unfolding on_literals
returns-clause-left_out c = is_read _ _ _ _ refl refl

pub returns-clause-index : goal.returns-clause-index
unfolding on_literals
returns-clause-index c = is_read _ _ _ _ refl refl

pub returns-clause-inside : goal.returns-clause-inside
unfolding on_literals
returns-clause-inside c = is_read _ _ _ _ refl refl

pub returns-clause-beside : goal.returns-clause-beside
unfolding on_literals
returns-clause-beside c = is_read _ _ _ _ refl refl

pub returns-clause-further_items : goal.returns-clause-further_items
unfolding on_literals
returns-clause-further_items c = is_read _ _ _ _ refl refl

pub returns-clause-no_value : goal.returns-clause-no_value
unfolding on_literals
returns-clause-no_value c = is_read _ _ _ _ refl refl

pub returns-clause-variant_of_a_text : goal.returns-clause-variant_of_a_text
unfolding on_literals
returns-clause-variant_of_a_text c = is_read _ _ _ _ refl refl

pub returns-clause-variant_with_the_empty_name : goal.returns-clause-variant_with_the_empty_name
unfolding on_literals
returns-clause-variant_with_the_empty_name c = is_read _ _ _ _ refl refl
