use Rattle.std.proofs.Common.{refl}
use Rattle.qs_spec.proofs.OnLiterals.{on_literals}
use Rattle.qs_spec.proofs.texts.optional_values.Goals as goal

pub returns-clause-none : goal.returns-clause-none
unfolding on_literals
returns-clause-none c = record { text_is = refl; error_is = refl }

pub returns-clause-some : goal.returns-clause-some
unfolding on_literals
returns-clause-some c = record { text_is = refl; error_is = refl }

pub returns-clause-empty : goal.returns-clause-empty
unfolding on_literals
returns-clause-empty c = record { text_is = refl; error_is = refl }

pub returns-clause-percent : goal.returns-clause-percent
unfolding on_literals
returns-clause-percent c = record { text_is = refl; error_is = refl }

pub returns-clause-empty_tuple : goal.returns-clause-empty_tuple
unfolding on_literals
returns-clause-empty_tuple c = record { text_is = refl; error_is = refl }

pub returns-clause-empty_map : goal.returns-clause-empty_map
unfolding on_literals
returns-clause-empty_map c = record { text_is = refl; error_is = refl }
