use Rattle.qs_spec.proofs.RelatedIsParsed.{one_list}
use Rattle.qs_spec.proofs.TreeOf.{one_tree}
use Rattle.qs_spec.proofs.trees.one_reading.Goals as goal

pub returns-clause-pairs : goal.returns-clause-pairs
returns-clause-pairs c = one_list

pub returns-clause-tree : goal.returns-clause-tree
returns-clause-tree c = one_tree
