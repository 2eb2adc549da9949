use Rattle.qs_tree.proofs.Common.{ap, option_map, mapping, built_entries, leaf_of}
use Rattle.qs_tree.proofs.lemmas.Views.{built_tree-Map, built_tree-Unsorted}
use Rattle.qs_tree.proofs.lemmas.build.Turns.{at_map}
use Rattle.qs_tree.proofs.build.add.add_here.Goals as goal

pub returns-in-Assign-manner-clause-added : goal.returns-in-Assign-manner-clause-added
returns-in-Assign-manner-clause-added c =
    rw (c.in-Assign-manner.is, c.in-Map.is, built_tree-Map c.in-Map.map, built_tree-Map c.add_at_empty.new.map)
    (at_map (leaf_of c.args.pair.now.leaf) (built_entries c.in-Map.map) (built_entries c.add_at_empty.new.map) c.add_at_empty.result (rw c.take-in-Assign-manner.ensures at c.add_at_empty.ensures))

pub returns-in_ok-push-in-Assign-clause-added : goal.returns-in_ok-push-in-Assign-clause-added
returns-in_ok-push-in-Assign-clause-added c =
    rw (c.in-Assign.is, c.in-Unsorted.is, built_tree-Unsorted c.in-Unsorted.leaves, built_tree-Unsorted c.push.new.self)
    (ap (option_map mapping) (rw (c.from.ensures, c.take.ensures) at c.in_ok-push-in-Assign.ensures.leaves))
