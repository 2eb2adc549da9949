use Rattle.std.proofs.Common.{refl}
use Rattle.qs_spec.proofs.OnLiterals.{on_literals}
use Rattle.qs_spec.proofs.texts.parts_without_fields.Goals as goal

pub returns-clause-struct_alone : goal.returns-clause-struct_alone
unfolding on_literals
returns-clause-struct_alone c = record { text_is = refl; error_is = refl }

pub returns-clause-variant : goal.returns-clause-variant
unfolding on_literals
returns-clause-variant c = record { text_is = refl; error_is = refl }

pub returns-clause-variant_too_deep : goal.returns-clause-variant_too_deep
unfolding on_literals
returns-clause-variant_too_deep c = record { text_is = refl; error_is = refl }

pub returns-clause-tuple_variant : goal.returns-clause-tuple_variant
unfolding on_literals
returns-clause-tuple_variant c = record { text_is = refl; error_is = refl }
