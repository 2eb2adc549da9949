use Rattle.qs_data.proofs.Common.{refl, tree_of}
use Rattle.qs_data.specs.declared.failure.expected.Expected.TheVariants as e
use Rattle.qs_data.proofs.lemmas.failure.Kinds.{said_of_list}
use Rattle.qs_data.proofs.failure.here.at_list.Goals as goal

pub returns : goal.returns
returns c = λ part. said_of_list part e.List (tree_of c.args.node.now) c.args.error c.unfit.result refl c.unfit.ensures
