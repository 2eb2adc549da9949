use Rattle.std.proofs.Common.{refl, false, codes}
use Rattle.qs_spec.proofs.OnLiterals.{on_literals}
use Rattle.qs_spec.proofs.TreeOf.{no_tree}
use Rattle.qs_spec.proofs.Worked.{is_read}
use Rattle.qs_spec.proofs.losses.lists_without_indices.Goals as goal

pub returns-clause-at_the_top : goal.returns-clause-at_the_top
unfolding on_literals
returns-clause-at_the_top c = record { written = record { text_is = refl; error_is = refl }; read = is_read _ _ _ _ refl refl }

pub returns-clause-lists_in_a_list : goal.returns-clause-lists_in_a_list
unfolding on_literals
returns-clause-lists_in_a_list c = record { written = record { text_is = refl; error_is = refl }; read = is_read _ _ _ _ refl refl }

pub returns-clause-one_empty_text : goal.returns-clause-one_empty_text
unfolding on_literals
returns-clause-one_empty_text c = record { written = record { text_is = refl; error_is = refl }; read = is_read _ _ _ _ refl refl }

pub returns-clause-one_empty_byte_string : goal.returns-clause-one_empty_byte_string
unfolding on_literals
returns-clause-one_empty_byte_string c = record { written = record { text_is = refl; error_is = refl }; read = is_read _ _ _ _ refl refl }

pub returns-clause-one_empty_text_in_a_tuple : goal.returns-clause-one_empty_text_in_a_tuple
unfolding on_literals
returns-clause-one_empty_text_in_a_tuple c = record { written = record { text_is = refl; error_is = refl }; read = is_read _ _ _ _ refl refl }

pub returns-clause-one_empty_text_in_a_variant : goal.returns-clause-one_empty_text_in_a_variant
unfolding on_literals
returns-clause-one_empty_text_in_a_variant c = record { written = record { text_is = refl; error_is = refl }; read = is_read _ _ _ _ refl refl }

pub returns-clause-one_unit : goal.returns-clause-one_unit
unfolding on_literals
returns-clause-one_unit c = record { written = record { text_is = refl; error_is = refl }; read = is_read _ _ _ _ refl refl }

pub returns-clause-one_none : goal.returns-clause-one_none
unfolding on_literals
returns-clause-one_none c = record { written = record { text_is = refl; error_is = refl }; read = is_read _ _ _ _ refl refl }

pub returns-clause-at_the_top_in_brackets : goal.returns-clause-at_the_top_in_brackets
unfolding on_literals
returns-clause-at_the_top_in_brackets c = record { written = record { text_is = refl; error_is = refl }; read = is_read _ _ _ _ refl refl }

pub returns-clause-lists_in_brackets : goal.returns-clause-lists_in_brackets
unfolding on_literals
returns-clause-lists_in_brackets c = (record { text_is = refl; error_is = refl }, no_tree false 5 (codes "v[][]=1&v[][]=2") refl)

pub returns-clause-other_order : goal.returns-clause-other_order
unfolding on_literals
returns-clause-other_order c = is_read _ _ _ _ refl refl
