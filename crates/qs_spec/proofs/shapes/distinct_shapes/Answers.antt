use Rattle.std.proofs.Common.{refl}
use Rattle.qs_spec.proofs.OnLiterals.{on_literals}
use Rattle.qs_spec.proofs.shapes.distinct_shapes.Goals as goal

pub returns-clause-struct_fields : goal.returns-clause-struct_fields
unfolding on_literals
returns-clause-struct_fields c = refl

pub returns-clause-struct_variant : goal.returns-clause-struct_variant
unfolding on_literals
returns-clause-struct_variant c = refl

pub returns-clause-variants : goal.returns-clause-variants
unfolding on_literals
returns-clause-variants c = refl

pub returns-clause-names_of_a_key : goal.returns-clause-names_of_a_key
unfolding on_literals
returns-clause-names_of_a_key c = refl

pub returns-clause-within_others : goal.returns-clause-within_others
unfolding on_literals
returns-clause-within_others c = refl

pub returns-clause-one_name_at_two_places : goal.returns-clause-one_name_at_two_places
unfolding on_literals
returns-clause-one_name_at_two_places c = refl
