use Rattle.std.proofs.Common.{refl}
use Rattle.qs_spec.proofs.OnLiterals.{on_literals}
use Rattle.qs_spec.proofs.texts.keys_of_maps.Goals as goal

pub returns-clause-number : goal.returns-clause-number
unfolding on_literals
returns-clause-number c = record { text_is = refl; error_is = refl }

pub returns-clause-unit : goal.returns-clause-unit
unfolding on_literals
returns-clause-unit c = record { text_is = refl; error_is = refl }

pub returns-clause-unit_at_no_depth : goal.returns-clause-unit_at_no_depth
unfolding on_literals
returns-clause-unit_at_no_depth c = record { text_is = refl; error_is = refl }

pub returns-clause-others : goal.returns-clause-others
unfolding on_literals
returns-clause-others c = record { text_is = refl; error_is = refl }

pub returns-clause-newtype : goal.returns-clause-newtype
unfolding on_literals
returns-clause-newtype c = record { text_is = refl; error_is = refl }
