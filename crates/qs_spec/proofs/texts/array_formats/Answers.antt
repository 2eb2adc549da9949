use Rattle.std.proofs.Common.{refl}
use Rattle.qs_spec.proofs.OnLiterals.{on_literals}
use Rattle.qs_spec.proofs.texts.array_formats.Goals as goal

pub returns-clause-indexed : goal.returns-clause-indexed
unfolding on_literals
returns-clause-indexed c = record { text_is = refl; error_is = refl }

pub returns-clause-empty_indexed : goal.returns-clause-empty_indexed
unfolding on_literals
returns-clause-empty_indexed c = record { text_is = refl; error_is = refl }

pub returns-clause-unindexed : goal.returns-clause-unindexed
unfolding on_literals
returns-clause-unindexed c = record { text_is = refl; error_is = refl }

pub returns-clause-tuple_variant : goal.returns-clause-tuple_variant
unfolding on_literals
returns-clause-tuple_variant c = record { text_is = refl; error_is = refl }

pub returns-clause-lists_in_a_list : goal.returns-clause-lists_in_a_list
unfolding on_literals
returns-clause-lists_in_a_list c = record { text_is = refl; error_is = refl }
