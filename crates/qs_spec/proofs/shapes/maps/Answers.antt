use Rattle.std.proofs.Common.{refl}
use Rattle.qs_spec.proofs.OnLiterals.{on_literals}
use Rattle.qs_spec.proofs.Worked.{is_read}
use Rattle.qs_spec.proofs.shapes.maps.Goals as goal

pub returns-clause-entries : goal.returns-clause-entries
unfolding on_literals
returns-clause-entries c = is_read _ _ _ _ refl refl

pub returns-clause-a_text : goal.returns-clause-a_text
unfolding on_literals
returns-clause-a_text c = is_read _ _ _ _ refl refl

pub returns-clause-no_value : goal.returns-clause-no_value
unfolding on_literals
returns-clause-no_value c = is_read _ _ _ _ refl refl

pub returns-clause-several : goal.returns-clause-several
unfolding on_literals
returns-clause-several c = is_read _ _ _ _ refl refl

pub returns-clause-another_key : goal.returns-clause-another_key
unfolding on_literals
returns-clause-another_key c = is_read _ _ _ _ refl refl

pub returns-clause-listed_key : goal.returns-clause-listed_key
unfolding on_literals
returns-clause-listed_key c = is_read _ _ _ _ refl refl

pub returns-clause-key_is_no_text : goal.returns-clause-key_is_no_text
unfolding on_literals
returns-clause-key_is_no_text c = is_read _ _ _ _ refl refl

pub returns-clause-boolean_key : goal.returns-clause-boolean_key
unfolding on_literals
returns-clause-boolean_key c = is_read _ _ _ _ refl refl

pub returns-clause-signed_key : goal.returns-clause-signed_key
unfolding on_literals
returns-clause-signed_key c = is_read _ _ _ _ refl refl

pub returns-clause-signed_key_without_a_sign : goal.returns-clause-signed_key_without_a_sign
unfolding on_literals
returns-clause-signed_key_without_a_sign c = is_read _ _ _ _ refl refl

pub returns-clause-key_beyond_its_bits : goal.returns-clause-key_beyond_its_bits
unfolding on_literals
returns-clause-key_beyond_its_bits c = is_read _ _ _ _ refl refl

pub returns-clause-character_key : goal.returns-clause-character_key
unfolding on_literals
returns-clause-character_key c = is_read _ _ _ _ refl refl

pub returns-clause-digit_as_a_character : goal.returns-clause-digit_as_a_character
unfolding on_literals
returns-clause-digit_as_a_character c = is_read _ _ _ _ refl refl

pub returns-clause-two_characters : goal.returns-clause-two_characters
unfolding on_literals
returns-clause-two_characters c = is_read _ _ _ _ refl refl

pub returns-clause-key_that_is_not_listed : goal.returns-clause-key_that_is_not_listed
unfolding on_literals
returns-clause-key_that_is_not_listed c = is_read _ _ _ _ refl refl

pub returns-clause-keys_of_one_text : goal.returns-clause-keys_of_one_text
unfolding on_literals
returns-clause-keys_of_one_text c = is_read _ _ _ _ refl refl
