use Rattle.qs_c.proofs.Parts.{nothing_passes}
use Rattle.qs_c.proofs.trees.show_root.Goals as goal

pub returns-in_ok-end_object-in-NoValue-clause-passes : goal.returns-in_ok-end_object-in-NoValue-clause-passes
returns-in_ok-end_object-in-NoValue-clause-passes c = nothing_passes c.args.tree.now c.in-NoValue.is
