use Rattle.std.proofs.Common.{refl}
use Rattle.qs_spec.proofs.OnLiterals.{on_literals}
use Rattle.qs_spec.proofs.Worked.{is_read}
use Rattle.qs_spec.proofs.shapes.smallest_key_names_the_variant.Goals as goal

pub returns : goal.returns
unfolding on_literals
returns c = is_read _ _ _ _ refl refl
