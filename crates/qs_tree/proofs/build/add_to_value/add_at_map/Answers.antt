use Rattle.qs_tree.proofs.Common.{entries_held, leaf_of}
use Rattle.qs_tree.proofs.lemmas.tree.Keys.{entries_of_map-map}
use Rattle.qs_tree.proofs.lemmas.build.Turns.{at_map}
use Rattle.qs_tree.proofs.build.add_to_value.add_at_map.Goals as goal

pub returns-in-Assign : goal.returns-in-Assign
returns-in-Assign c =
    let new = c.add_leaf_at.new.entries in
    rw (c.in-Assign.is, entries_of_map-map c.args.map.now, entries_of_map-map (record { map = new }))
    (at_map (leaf_of c.args.leaf) (entries_held c.args.map.now.map) (entries_held new) c.add_leaf_at.result (rw c.from.ensures at c.add_leaf_at.ensures))
