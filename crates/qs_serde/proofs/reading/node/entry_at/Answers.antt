use Rattle.std.proofs.Common.{◌≤◌, length, slice_get, ap, ◌∙◌, arith}
use Rattle.std.proofs.lemmas.Option.{slice_get_past}
use Rattle.qs_tree.specs.tree.Views.{map_pairs, tree_of}
use Rattle.qs_tree.proofs.lemmas.Views.{tree_of-Map}
use Rattle.qs_serde.specs.Nodes.{pairs_in}
use Rattle.qs_serde.proofs.reading.node.entry_at.Goals as goal

pub returns-then-at-len-clause-entry : goal.returns-then-at-len-clause-entry
returns-then-at-len-clause-entry c =
    let past : length (map_pairs c.in-Map.map) ≤ c.args.at = omega (arith, c.len.ensures, c.if-at-len.true) in
    ap (λ t. slice_get (pairs_in t) c.args.at) (ap tree_of c.in-Map.is ∙ tree_of-Map c.in-Map.map) ∙ slice_get_past (map_pairs c.in-Map.map) c.args.at past
