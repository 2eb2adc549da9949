use Rattle.qs_spec.proofs.StableBack.{stable_back}
use Rattle.qs_spec.proofs.read_back.stable_trees_come_back.Goals as goal

pub returns : goal.returns
returns c = stable_back
