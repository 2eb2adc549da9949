use Rattle.qs_tree.proofs.Common.{arith}
use Rattle.qs_tree.proofs.lemmas.escape.ByteClasses.{ordinary_are}
use Rattle.qs_tree.proofs.escape.search.classes.is_ordinary.Goals as goal

pub returns-clause-all : goal.returns-clause-all
returns-clause-all c = Prim.grind (arith, ordinary_are)
