use Rattle.qs_spec.proofs.Sound.{sound}
use Rattle.qs_spec.proofs.trees.sound_trees.Goals as goal

pub returns : goal.returns
returns c = sound
