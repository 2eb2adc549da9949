use Rattle.std.proofs.Common.{refl}
use Rattle.qs_spec.proofs.OnLiterals.{on_literals}
use Rattle.qs_spec.proofs.Worked.{is_read}
use Rattle.qs_spec.proofs.shapes.small_shapes.Goals as goal

pub returns-clause-unit : goal.returns-clause-unit
unfolding on_literals
returns-clause-unit c = is_read _ _ _ _ refl refl

pub returns-clause-unit_of_a_text : goal.returns-clause-unit_of_a_text
unfolding on_literals
returns-clause-unit_of_a_text c = is_read _ _ _ _ refl refl

pub returns-clause-character : goal.returns-clause-character
unfolding on_literals
returns-clause-character c = is_read _ _ _ _ refl refl

pub returns-clause-two_characters : goal.returns-clause-two_characters
unfolding on_literals
returns-clause-two_characters c = is_read _ _ _ _ refl refl

pub returns-clause-ignored : goal.returns-clause-ignored
unfolding on_literals
returns-clause-ignored c = is_read _ _ _ _ refl refl

pub returns-clause-newtype : goal.returns-clause-newtype
unfolding on_literals
returns-clause-newtype c = is_read _ _ _ _ refl refl

pub returns-clause-unit_alone : goal.returns-clause-unit_alone
unfolding on_literals
returns-clause-unit_alone c = is_read _ _ _ _ refl refl

pub returns-clause-several_characters : goal.returns-clause-several_characters
unfolding on_literals
returns-clause-several_characters c = is_read _ _ _ _ refl refl
