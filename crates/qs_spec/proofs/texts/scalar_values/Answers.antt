use Rattle.std.proofs.Common.{refl}
use Rattle.qs_spec.proofs.OnLiterals.{on_literals}
use Rattle.qs_spec.proofs.texts.scalar_values.Goals as goal

pub returns : goal.returns
unfolding on_literals
returns c = record { text_is = refl; error_is = refl }
