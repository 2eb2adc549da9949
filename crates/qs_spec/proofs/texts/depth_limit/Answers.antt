use Rattle.std.proofs.Common.{refl}
use Rattle.qs_spec.proofs.OnLiterals.{on_literals}
use Rattle.qs_spec.proofs.texts.depth_limit.Goals as goal

pub returns-clause-within : goal.returns-clause-within
unfolding on_literals
returns-clause-within c = record { text_is = refl; error_is = refl }

pub returns-clause-beyond : goal.returns-clause-beyond
unfolding on_literals
returns-clause-beyond c = record { text_is = refl; error_is = refl }

pub returns-clause-in_form_mode : goal.returns-clause-in_form_mode
unfolding on_literals
returns-clause-in_form_mode c = record { text_is = refl; error_is = refl }

pub returns-clause-nothing_after : goal.returns-clause-nothing_after
unfolding on_literals
returns-clause-nothing_after c = record { text_is = refl; error_is = refl }
