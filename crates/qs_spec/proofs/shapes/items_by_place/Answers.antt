use Rattle.std.proofs.Common.{refl}
use Rattle.qs_spec.proofs.OnLiterals.{on_literals}
use Rattle.qs_spec.proofs.Worked.{is_read}
use Rattle.qs_spec.proofs.shapes.items_by_place.Goals as goal

pub returns-clause-gap : goal.returns-clause-gap
unfolding on_literals
returns-clause-gap c = is_read _ _ _ _ refl refl

pub returns-clause-after_the_first : goal.returns-clause-after_the_first
unfolding on_literals
returns-clause-after_the_first c = is_read _ _ _ _ refl refl

pub returns-clause-any_order : goal.returns-clause-any_order
unfolding on_literals
returns-clause-any_order c = is_read _ _ _ _ refl refl

pub returns-clause-nothing : goal.returns-clause-nothing
unfolding on_literals
returns-clause-nothing c = is_read _ _ _ _ refl refl

pub returns-clause-a_text : goal.returns-clause-a_text
unfolding on_literals
returns-clause-a_text c = is_read _ _ _ _ refl refl

pub returns-clause-beyond_the_end : goal.returns-clause-beyond_the_end
unfolding on_literals
returns-clause-beyond_the_end c = is_read _ _ _ _ refl refl

pub returns-clause-another_map : goal.returns-clause-another_map
unfolding on_literals
returns-clause-another_map c = is_read _ _ _ _ refl refl

pub returns-clause-last_place : goal.returns-clause-last_place
unfolding on_literals
returns-clause-last_place c = refl

pub returns-clause-beyond_the_last_place : goal.returns-clause-beyond_the_last_place
unfolding on_literals
returns-clause-beyond_the_last_place c = refl
