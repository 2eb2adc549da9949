use Rattle.std.proofs.Common.{refl, sym, subst}
use Rattle.qs_tree.specs.tree.Views.{tree_of}
use Rattle.qs_serde.specs.Places.{Lead}
use Rattle.qs_serde.proofs.reading.format.TreeFormat.new.Goals as goal

pub returns-clause-place : goal.returns-clause-place
returns-clause-place c =
    let root = tree_of c.args.tree.now in
    ((root, subst (λ outers. Lead outers root root) (sym c.new-2.ensures.items) refl), refl)
