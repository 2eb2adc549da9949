use Rattle.qs_spec.proofs.Scan.{in_place}
use Rattle.qs_spec.proofs.trees.in_place.Goals as goal

pub returns : goal.returns
returns c = in_place
