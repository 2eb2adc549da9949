use Rattle.std.proofs.Common.{refl}
use Rattle.qs_spec.proofs.OnLiterals.{on_literals}
use Rattle.qs_spec.proofs.texts.variants.Goals as goal

pub returns-clause-unit : goal.returns-clause-unit
unfolding on_literals
returns-clause-unit c = record { text_is = refl; error_is = refl }

pub returns-clause-newtype : goal.returns-clause-newtype
unfolding on_literals
returns-clause-newtype c = record { text_is = refl; error_is = refl }

pub returns-clause-tuple : goal.returns-clause-tuple
unfolding on_literals
returns-clause-tuple c = record { text_is = refl; error_is = refl }

pub returns-clause-struct_variant : goal.returns-clause-struct_variant
unfolding on_literals
returns-clause-struct_variant c = record { text_is = refl; error_is = refl }
