use Rattle.std.proofs.Common.{refl}
use Rattle.qs_spec.proofs.OnLiterals.{on_literals}
use Rattle.qs_spec.proofs.Worked.{is_read}
use Rattle.qs_spec.proofs.shapes.fields_by_name.Goals as goal

pub returns-clause-index : goal.returns-clause-index
unfolding on_literals
returns-clause-index c = is_read _ _ _ _ refl refl

pub returns-clause-index_and_text : goal.returns-clause-index_and_text
unfolding on_literals
returns-clause-index_and_text c = is_read _ _ _ _ refl refl

pub returns-clause-other_key : goal.returns-clause-other_key
unfolding on_literals
returns-clause-other_key c = is_read _ _ _ _ refl refl

pub returns-clause-other_key_is_no_text : goal.returns-clause-other_key_is_no_text
unfolding on_literals
returns-clause-other_key_is_no_text c = is_read _ _ _ _ refl refl

pub returns-clause-left_out : goal.returns-clause-left_out
unfolding on_literals
returns-clause-left_out c = is_read _ _ _ _ refl refl

pub returns-clause-missing : goal.returns-clause-missing
unfolding on_literals
returns-clause-missing c = is_read _ _ _ _ refl refl

pub returns-clause-by_place : goal.returns-clause-by_place
unfolding on_literals
returns-clause-by_place c = is_read _ _ _ _ refl refl

pub returns-clause-left_out_beyond_the_end : goal.returns-clause-left_out_beyond_the_end
unfolding on_literals
returns-clause-left_out_beyond_the_end c = is_read _ _ _ _ refl refl

pub returns-clause-option_beyond_the_end : goal.returns-clause-option_beyond_the_end
unfolding on_literals
returns-clause-option_beyond_the_end c = is_read _ _ _ _ refl refl

pub returns-clause-fields_of_a_text : goal.returns-clause-fields_of_a_text
unfolding on_literals
returns-clause-fields_of_a_text c = is_read _ _ _ _ refl refl

pub returns-clause-fields_of_nothing : goal.returns-clause-fields_of_nothing
unfolding on_literals
returns-clause-fields_of_nothing c = is_read _ _ _ _ refl refl
