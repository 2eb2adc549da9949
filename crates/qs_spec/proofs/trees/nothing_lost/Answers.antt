use Rattle.qs_spec.proofs.Equivalent.{leaves, nests}
use Rattle.qs_spec.proofs.trees.nothing_lost.Goals as goal

pub returns-clause-leaves : goal.returns-clause-leaves
returns-clause-leaves c = leaves

pub returns-clause-nesting : goal.returns-clause-nesting
returns-clause-nesting c = nests
