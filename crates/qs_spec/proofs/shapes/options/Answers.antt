use Rattle.std.proofs.Common.{refl}
use Rattle.qs_spec.proofs.OnLiterals.{on_literals}
use Rattle.qs_spec.proofs.Worked.{is_read}
use Rattle.qs_spec.proofs.shapes.options.Goals as goal

pub returns-clause-key_alone : goal.returns-clause-key_alone
unfolding on_literals
returns-clause-key_alone c = is_read _ _ _ _ refl refl

pub returns-clause-nothing_after : goal.returns-clause-nothing_after
unfolding on_literals
returns-clause-nothing_after c = is_read _ _ _ _ refl refl

pub returns-clause-missing : goal.returns-clause-missing
unfolding on_literals
returns-clause-missing c = is_read _ _ _ _ refl refl

pub returns-clause-number : goal.returns-clause-number
unfolding on_literals
returns-clause-number c = is_read _ _ _ _ refl refl

pub returns-clause-some_of_nothing : goal.returns-clause-some_of_nothing
unfolding on_literals
returns-clause-some_of_nothing c = is_read _ _ _ _ refl refl

pub returns-clause-some_of_a_sequence : goal.returns-clause-some_of_a_sequence
unfolding on_literals
returns-clause-some_of_a_sequence c = is_read _ _ _ _ refl refl

pub returns-clause-nothing_at_all : goal.returns-clause-nothing_at_all
unfolding on_literals
returns-clause-nothing_at_all c = is_read _ _ _ _ refl refl
