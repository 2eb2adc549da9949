use Rattle.std.proofs.Common.{refl}
use Rattle.qs_spec.proofs.OnLiterals.{on_literals}
use Rattle.qs_spec.proofs.Worked.{is_read}
use Rattle.qs_spec.proofs.shapes.last_of_several.Goals as goal

pub returns-clause-last : goal.returns-clause-last
unfolding on_literals
returns-clause-last c = is_read _ _ _ _ refl refl

pub returns-clause-rejected : goal.returns-clause-rejected
unfolding on_literals
returns-clause-rejected c = is_read _ _ _ _ refl refl

pub returns-clause-no_text : goal.returns-clause-no_text
unfolding on_literals
returns-clause-no_text c = is_read _ _ _ _ refl refl

pub returns-clause-bytes : goal.returns-clause-bytes
unfolding on_literals
returns-clause-bytes c = is_read _ _ _ _ refl refl

pub returns-clause-last_is_nothing : goal.returns-clause-last_is_nothing
unfolding on_literals
returns-clause-last_is_nothing c = is_read _ _ _ _ refl refl

pub returns-clause-nothing : goal.returns-clause-nothing
unfolding on_literals
returns-clause-nothing c = is_read _ _ _ _ refl refl

pub returns-clause-one_where_rejected : goal.returns-clause-one_where_rejected
unfolding on_literals
returns-clause-one_where_rejected c = is_read _ _ _ _ refl refl
