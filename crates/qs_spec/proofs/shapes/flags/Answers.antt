use Rattle.std.proofs.Common.{refl}
use Rattle.qs_spec.proofs.OnLiterals.{on_literals}
use Rattle.qs_spec.proofs.Worked.{is_read}
use Rattle.qs_spec.proofs.shapes.flags.Goals as goal

pub returns-clause-key_alone : goal.returns-clause-key_alone
unfolding on_literals
returns-clause-key_alone c = is_read _ _ _ _ refl refl

pub returns-clause-nothing_after : goal.returns-clause-nothing_after
unfolding on_literals
returns-clause-nothing_after c = is_read _ _ _ _ refl refl

pub returns-clause-text : goal.returns-clause-text
unfolding on_literals
returns-clause-text c = is_read _ _ _ _ refl refl

pub returns-clause-twice : goal.returns-clause-twice
unfolding on_literals
returns-clause-twice c = is_read _ _ _ _ refl refl

pub returns-clause-twice_where_rejected : goal.returns-clause-twice_where_rejected
unfolding on_literals
returns-clause-twice_where_rejected c = is_read _ _ _ _ refl refl
