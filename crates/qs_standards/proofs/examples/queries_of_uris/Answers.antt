use Rattle.std.proofs.Common.{refl}
use Rattle.qs_spec.proofs.OnLiterals.{on_literals}
use Rattle.qs_standards.proofs.examples.queries_of_uris.Goals as goal

pub returns-clause-text : goal.returns-clause-text
unfolding on_literals
returns-clause-text c = record { text_is = refl; error_is = refl }
