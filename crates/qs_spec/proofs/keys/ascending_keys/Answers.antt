use Rattle.qs_spec.proofs.Ascending.{tree_ascends}
use Rattle.qs_spec.proofs.keys.ascending_keys.Goals as goal

pub returns : goal.returns
returns c = tree_ascends
