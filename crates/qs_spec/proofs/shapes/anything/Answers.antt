use Rattle.std.proofs.Common.{refl}
use Rattle.qs_spec.proofs.OnLiterals.{on_literals}
use Rattle.qs_spec.proofs.Worked.{is_read}
use Rattle.qs_spec.proofs.shapes.anything.Goals as goal

pub returns-clause-index : goal.returns-clause-index
unfolding on_literals
returns-clause-index c = is_read _ _ _ _ refl refl

pub returns-clause-gap : goal.returns-clause-gap
unfolding on_literals
returns-clause-gap c = is_read _ _ _ _ refl refl

pub returns-clause-no_values : goal.returns-clause-no_values
unfolding on_literals
returns-clause-no_values c = is_read _ _ _ _ refl refl

pub returns-clause-index_and_text : goal.returns-clause-index_and_text
unfolding on_literals
returns-clause-index_and_text c = is_read _ _ _ _ refl refl

pub returns-clause-several : goal.returns-clause-several
unfolding on_literals
returns-clause-several c = is_read _ _ _ _ refl refl

pub returns-clause-empty : goal.returns-clause-empty
unfolding on_literals
returns-clause-empty c = is_read _ _ _ _ refl refl

pub returns-clause-ampersand : goal.returns-clause-ampersand
unfolding on_literals
returns-clause-ampersand c = is_read _ _ _ _ refl refl

pub returns-clause-no_text : goal.returns-clause-no_text
unfolding on_literals
returns-clause-no_text c = is_read _ _ _ _ refl refl
