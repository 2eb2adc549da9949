use Rattle.qs_tree.proofs.Common.{◌≡◌, ◌+◌, ap, arith, node_count, built_tree}
use Rattle.qs_tree.proofs.lemmas.build.BuiltNodes.{nodes, entry_nodes, vector_nodes}
use Rattle.qs_tree.proofs.lemmas.tree.NodeCounts.{entry_put, entry_within, entry_last}
use Rattle.qs_tree.proofs.build.dropping.+dropping.Goals as goal

pub drop_first_leaf-loop-entries-smaller : goal.drop_first_leaf-loop-entries-smaller
drop_first_leaf-loop-entries-smaller t c =
    let es = c.in-Some.entries in
    let before : nodes c.loop-entries.node ≡ 2 + entry_nodes es = ap node_count c.in-Some.ensures in
    omega (arith, before, entry_within built_tree es 0 c.replace-node.result c.replace-node.ensures.old)

pub drop_first_leaf-loop-entries-preserved : goal.drop_first_leaf-loop-entries-preserved
drop_first_leaf-loop-entries-preserved t c =
    let es = c.in-Some.entries in
    let old = c.replace-node.ensures.old in
    let before : nodes c.loop-entries.node ≡ 2 + entry_nodes es = ap node_count c.in-Some.ensures in
    record {
      all = omega (arith, c.loop-entries.invariant.all, before, vector_nodes c.replace-node.new.self, ap entry_nodes c.replace-node.ensures.new, entry_put built_tree es 0 c.replace-node.result c.loop-entries.above old);
      within = omega (arith, c.loop-entries.invariant.within, before, entry_within built_tree es 0 c.replace-node.result old);
    }

pub without_last-drop_first_leaf-requires : goal.without_last-drop_first_leaf-requires
without_last-drop_first_leaf-requires t c =
    (omega (arith, c.decreases, ap entry_nodes c.in-Some.ensures.all, entry_last built_tree c.pop.new.self c.in-Some.field-0-0 c.in-Some.last), tt)

pub without_last-returns : goal.without_last-returns
without_last-returns t c =
    let es = c.pop.new.self in
    omega (arith, c.drop_first_leaf.ensures, vector_nodes es, ap entry_nodes c.in-Some.ensures.all, entry_last built_tree es c.in-Some.field-0-0 c.in-Some.last)
