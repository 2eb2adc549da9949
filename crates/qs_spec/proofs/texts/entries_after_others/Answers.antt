use Rattle.std.proofs.Common.{refl}
use Rattle.qs_spec.proofs.OnLiterals.{on_literals}
use Rattle.qs_spec.proofs.texts.entries_after_others.Goals as goal

pub returns-clause-after_a_key : goal.returns-clause-after_a_key
unfolding on_literals
returns-clause-after_a_key c = refl

pub returns-clause-without_a_key : goal.returns-clause-without_a_key
unfolding on_literals
returns-clause-without_a_key c = refl

pub returns-clause-after_no_key : goal.returns-clause-after_no_key
unfolding on_literals
returns-clause-after_no_key c = refl

pub returns-clause-empty_keys : goal.returns-clause-empty_keys
unfolding on_literals
returns-clause-empty_keys c = record { text_is = refl; error_is = refl }

pub returns-clause-started_by_a_key : goal.returns-clause-started_by_a_key
unfolding on_literals
returns-clause-started_by_a_key c = refl

pub returns-clause-started_by_no_key : goal.returns-clause-started_by_no_key
unfolding on_literals
returns-clause-started_by_no_key c = refl

pub returns-clause-started_before : goal.returns-clause-started_before
unfolding on_literals
returns-clause-started_before c = refl

pub returns-clause-after_a_key_and_none : goal.returns-clause-after_a_key_and_none
unfolding on_literals
returns-clause-after_a_key_and_none c = refl
