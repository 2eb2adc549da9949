use Rattle.std.proofs.Common.{refl}
use Rattle.qs_spec.proofs.OnLiterals.{on_literals}
use Rattle.qs_spec.proofs.Worked.{is_read, is_unstable}
use Rattle.qs_spec.proofs.losses.unstable_trees_are_lost.Goals as goal

pub returns-clause-stable : goal.returns-clause-stable
unfolding on_literals
returns-clause-stable c = refl

pub returns-clause-no_value : goal.returns-clause-no_value
unfolding on_literals
returns-clause-no_value c = is_unstable _ _ _ _ _ _ refl refl refl (record { text_is = refl; error_is = refl }) refl

pub returns-clause-several_values : goal.returns-clause-several_values
unfolding on_literals
returns-clause-several_values c = is_unstable _ _ _ _ _ _ refl refl refl (record { text_is = refl; error_is = refl }) refl

pub returns-clause-escaped_digit : goal.returns-clause-escaped_digit
unfolding on_literals
returns-clause-escaped_digit c = is_unstable _ _ _ _ _ _ refl refl refl (record { text_is = refl; error_is = refl }) refl

pub returns-clause-bracket_in_form : goal.returns-clause-bracket_in_form
unfolding on_literals
returns-clause-bracket_in_form c = is_unstable _ _ _ _ _ _ refl refl refl (record { text_is = refl; error_is = refl }) refl

pub returns-clause-empty_key : goal.returns-clause-empty_key
unfolding on_literals
returns-clause-empty_key c = is_unstable _ _ _ _ _ _ refl refl refl (record { text_is = refl; error_is = refl }) refl

pub returns-clause-beyond_the_limit : goal.returns-clause-beyond_the_limit
unfolding on_literals
returns-clause-beyond_the_limit c = is_read _ _ _ _ refl refl

pub returns-clause-too_deep : goal.returns-clause-too_deep
unfolding on_literals
returns-clause-too_deep c = record { text_is = refl; error_is = refl }

pub returns-clause-key_not_utf8 : goal.returns-clause-key_not_utf8
unfolding on_literals
returns-clause-key_not_utf8 c = is_read _ _ _ _ refl refl
