use Rattle.qs_data.proofs.Common.{Shape, shape_of, uninitialized}
use Rattle.qs_data.specs.failure.Own.{IsOwn}
use Rattle.qs_data.proofs.lemmas.failure.Failures.{here_custom, here_fails}
use Rattle.qs_data.proofs.read.by_shape.nothing.Goals as goal

pub returns-clause-custom : goal.returns-clause-custom
returns-clause-custom c = here_custom (shape_of c.args.part.now) uninitialized c.error-error.result c.at_missing.result c.at_missing.ensures c.error-error.ensures

pub returns-clause-fails : goal.returns-clause-fails
returns-clause-fails c = here_fails c.args.reader.reject_duplicates (Shape.option (shape_of c.args.part.now)) uninitialized c.error-error.result c.at_missing.result c.at_missing.ensures IsOwn.nothing
