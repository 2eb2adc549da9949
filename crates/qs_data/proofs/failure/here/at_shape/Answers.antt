use Rattle.qs_data.proofs.Common.{None, shape_of, tree_of}
use Rattle.qs_data.proofs.lemmas.failure.Kinds.{said}
use Rattle.qs_data.proofs.failure.here.at_shape.Goals as goal

pub returns-in-Ok : goal.returns-in-Ok
returns-in-Ok c = λ none. said None (shape_of c.args.shape.now) c.in-Ok.expected (tree_of c.args.node.now) c.args.error c.unfit.result none c.in-Ok.ensures c.unfit.ensures
