use Rattle.std.proofs.Common.{refl}
use Rattle.qs_spec.proofs.OnLiterals.{on_literals}
use Rattle.qs_spec.proofs.Worked.{is_read}
use Rattle.qs_spec.proofs.shapes.kinds_of_variants.Goals as goal

pub returns-clause-unit_by_text : goal.returns-clause-unit_by_text
unfolding on_literals
returns-clause-unit_by_text c = is_read _ _ _ _ refl refl

pub returns-clause-newtype_by_text : goal.returns-clause-newtype_by_text
unfolding on_literals
returns-clause-newtype_by_text c = is_read _ _ _ _ refl refl

pub returns-clause-unknown : goal.returns-clause-unknown
unfolding on_literals
returns-clause-unknown c = is_read _ _ _ _ refl refl

pub returns-clause-unit_by_key : goal.returns-clause-unit_by_key
unfolding on_literals
returns-clause-unit_by_key c = is_read _ _ _ _ refl refl

pub returns-clause-tuple : goal.returns-clause-tuple
unfolding on_literals
returns-clause-tuple c = is_read _ _ _ _ refl refl

pub returns-clause-struct_of_a_text : goal.returns-clause-struct_of_a_text
unfolding on_literals
returns-clause-struct_of_a_text c = is_read _ _ _ _ refl refl

pub returns-clause-struct_field_of_a_text : goal.returns-clause-struct_field_of_a_text
unfolding on_literals
returns-clause-struct_field_of_a_text c = is_read _ _ _ _ refl refl

pub returns-clause-struct_of_a_map : goal.returns-clause-struct_of_a_map
unfolding on_literals
returns-clause-struct_of_a_map c = is_read _ _ _ _ refl refl

pub returns-clause-struct_of_a_sequence : goal.returns-clause-struct_of_a_sequence
unfolding on_literals
returns-clause-struct_of_a_sequence c = is_read _ _ _ _ refl refl

pub returns-clause-struct_of_a_short_sequence : goal.returns-clause-struct_of_a_short_sequence
unfolding on_literals
returns-clause-struct_of_a_short_sequence c = is_read _ _ _ _ refl refl

pub returns-clause-struct_beyond_the_end : goal.returns-clause-struct_beyond_the_end
unfolding on_literals
returns-clause-struct_beyond_the_end c = is_read _ _ _ _ refl refl

pub returns-clause-struct_of_nothing : goal.returns-clause-struct_of_nothing
unfolding on_literals
returns-clause-struct_of_nothing c = is_read _ _ _ _ refl refl

pub returns-clause-tuple_beyond_the_end : goal.returns-clause-tuple_beyond_the_end
unfolding on_literals
returns-clause-tuple_beyond_the_end c = is_read _ _ _ _ refl refl

pub returns-clause-nothing : goal.returns-clause-nothing
unfolding on_literals
returns-clause-nothing c = is_read _ _ _ _ refl refl

pub returns-clause-no_value : goal.returns-clause-no_value
unfolding on_literals
returns-clause-no_value c = is_read _ _ _ _ refl refl

pub returns-clause-several : goal.returns-clause-several
unfolding on_literals
returns-clause-several c = is_read _ _ _ _ refl refl
