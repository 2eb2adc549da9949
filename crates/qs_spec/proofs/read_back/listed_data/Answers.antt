use Rattle.std.proofs.Common.{refl}
use Rattle.qs_spec.proofs.OnLiterals.{on_literals}
use Rattle.qs_spec.proofs.read_back.listed_data.Goals as goal

pub returns-clause-indexed : goal.returns-clause-indexed
unfolding on_literals
returns-clause-indexed c = refl

pub returns-clause-at_the_top : goal.returns-clause-at_the_top
unfolding on_literals
returns-clause-at_the_top c = refl

pub returns-clause-in_a_field : goal.returns-clause-in_a_field
unfolding on_literals
returns-clause-in_a_field c = refl

pub returns-clause-in_a_variant : goal.returns-clause-in_a_variant
unfolding on_literals
returns-clause-in_a_variant c = refl

pub returns-clause-under_a_key : goal.returns-clause-under_a_key
unfolding on_literals
returns-clause-under_a_key c = refl

pub returns-clause-of_units : goal.returns-clause-of_units
unfolding on_literals
returns-clause-of_units c = refl

pub returns-clause-of_options : goal.returns-clause-of_options
unfolding on_literals
returns-clause-of_options c = refl

pub returns-clause-one_empty_text : goal.returns-clause-one_empty_text
unfolding on_literals
returns-clause-one_empty_text c = refl

pub returns-clause-two_empty_texts : goal.returns-clause-two_empty_texts
unfolding on_literals
returns-clause-two_empty_texts c = refl
