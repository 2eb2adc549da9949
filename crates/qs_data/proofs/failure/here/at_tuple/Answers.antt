use Rattle.qs_data.proofs.Common.{refl, tree_of}
use Rattle.qs_data.specs.declared.failure.expected.Expected.TheVariants as e
use Rattle.qs_data.proofs.lemmas.failure.Kinds.{said_of_tuple}
use Rattle.qs_data.proofs.failure.here.at_tuple.Goals as goal

pub returns : goal.returns
returns c = λ parts. said_of_tuple parts e.Tuple (tree_of c.args.node.now) c.args.error c.unfit.result refl c.unfit.ensures
