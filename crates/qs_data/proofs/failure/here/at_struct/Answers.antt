use Rattle.qs_data.proofs.Common.{None, Shape, refl, tree_of}
use Rattle.qs_data.specs.declared.failure.expected.Expected.TheVariants as e
use Rattle.qs_data.proofs.lemmas.failure.Kinds.{said}
use Rattle.qs_data.proofs.failure.here.at_struct.Goals as goal

pub returns : goal.returns
returns c = λ u fs none. said None (Shape.struct u fs) e.Struct (tree_of c.args.node.now) c.args.error c.unfit.result none refl c.unfit.ensures
