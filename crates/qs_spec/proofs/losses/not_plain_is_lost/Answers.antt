use Rattle.std.proofs.Common.{refl}
use Rattle.qs_spec.proofs.OnLiterals.{on_literals}
use Rattle.qs_spec.proofs.Worked.{is_read}
use Rattle.qs_spec.proofs.losses.not_plain_is_lost.Goals as goal

pub returns-clause-option_in_option : goal.returns-clause-option_in_option
unfolding on_literals
returns-clause-option_in_option c = record { written = record { text_is = refl; error_is = refl }; read = is_read _ _ _ _ refl refl }

pub returns-clause-option_in_newtype : goal.returns-clause-option_in_newtype
unfolding on_literals
returns-clause-option_in_newtype c = record { written = record { text_is = refl; error_is = refl }; read = is_read _ _ _ _ refl refl }

pub returns-clause-empty_struct : goal.returns-clause-empty_struct
unfolding on_literals
returns-clause-empty_struct c = record { written = record { text_is = refl; error_is = refl }; read = is_read _ _ _ _ refl refl }

pub returns-clause-empty_variant : goal.returns-clause-empty_variant
unfolding on_literals
returns-clause-empty_variant c = record { written = record { text_is = refl; error_is = refl }; read = is_read _ _ _ _ refl refl }

pub returns-clause-empty_tuple_variant : goal.returns-clause-empty_tuple_variant
unfolding on_literals
returns-clause-empty_tuple_variant c = record { written = record { text_is = refl; error_is = refl }; read = is_read _ _ _ _ refl refl }

pub returns-clause-leading_zero : goal.returns-clause-leading_zero
unfolding on_literals
returns-clause-leading_zero c = record { written = record { text_is = refl; error_is = refl }; read = is_read _ _ _ _ refl refl }

pub returns-clause-leading_zero_of_a_field : goal.returns-clause-leading_zero_of_a_field
unfolding on_literals
returns-clause-leading_zero_of_a_field c = record { written = record { text_is = refl; error_is = refl }; read = is_read _ _ _ _ refl refl }

pub returns-clause-bracket_in_form : goal.returns-clause-bracket_in_form
unfolding on_literals
returns-clause-bracket_in_form c = record { written = record { text_is = refl; error_is = refl }; read = is_read _ _ _ _ refl refl }

pub returns-clause-empty_key : goal.returns-clause-empty_key
unfolding on_literals
returns-clause-empty_key c = record { written = record { text_is = refl; error_is = refl }; read = is_read _ _ _ _ refl refl }

pub returns-clause-empty_field : goal.returns-clause-empty_field
unfolding on_literals
returns-clause-empty_field c = record { written = record { text_is = refl; error_is = refl }; read = is_read _ _ _ _ refl refl }

pub returns-clause-empty_unit_variant : goal.returns-clause-empty_unit_variant
unfolding on_literals
returns-clause-empty_unit_variant c = record { written = record { text_is = refl; error_is = refl }; read = is_read _ _ _ _ refl refl }

pub returns-clause-equal_keys : goal.returns-clause-equal_keys
unfolding on_literals
returns-clause-equal_keys c = record { written = record { text_is = refl; error_is = refl }; read = is_read _ _ _ _ refl refl }

pub returns-clause-key_of_bytes : goal.returns-clause-key_of_bytes
unfolding on_literals
returns-clause-key_of_bytes c = record { written = record { text_is = refl; error_is = refl }; read = is_read _ _ _ _ refl refl }

pub returns-clause-index_too_great : goal.returns-clause-index_too_great
unfolding on_literals
returns-clause-index_too_great c = refl
