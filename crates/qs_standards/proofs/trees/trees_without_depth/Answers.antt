use Rattle.qs_standards.proofs.HeldNames.{holds, some_tree, no_tree}
use Rattle.qs_standards.proofs.trees.trees_without_depth.Goals as goal

pub returns-clause-tree : goal.returns-clause-tree
returns-clause-tree c = λ is_form b input t e d. holds is_form b input e d t

pub returns-clause-some : goal.returns-clause-some
returns-clause-some c = some_tree

pub returns-clause-none : goal.returns-clause-none
returns-clause-none c = no_tree
