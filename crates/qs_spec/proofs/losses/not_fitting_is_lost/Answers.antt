use Rattle.std.proofs.Common.{refl}
use Rattle.qs_spec.proofs.OnLiterals.{on_literals}
use Rattle.qs_spec.proofs.Worked.{is_read}
use Rattle.qs_spec.proofs.losses.not_fitting_is_lost.Goals as goal

pub returns-clause-order_of_fields : goal.returns-clause-order_of_fields
unfolding on_literals
returns-clause-order_of_fields c = record { written = record { text_is = refl; error_is = refl }; read = is_read _ _ _ _ refl refl }

pub returns-clause-sign : goal.returns-clause-sign
unfolding on_literals
returns-clause-sign c = record { written = record { text_is = refl; error_is = refl }; read = is_read _ _ _ _ refl refl }

pub returns-clause-bits : goal.returns-clause-bits
unfolding on_literals
returns-clause-bits c = record { written = record { text_is = refl; error_is = refl }; read = is_read _ _ _ _ refl refl }

pub returns-clause-length : goal.returns-clause-length
unfolding on_literals
returns-clause-length c = record { written = record { text_is = refl; error_is = refl }; read = is_read _ _ _ _ refl refl }

pub returns-clause-any : goal.returns-clause-any
unfolding on_literals
returns-clause-any c = record { written = record { text_is = refl; error_is = refl }; read = is_read _ _ _ _ refl refl }
