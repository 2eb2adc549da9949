use Rattle.qs_tree.proofs.Common.{ap, ◌∙◌, arith, roll-ParsedMap, entries_node_count, tree_of}
use Rattle.qs_tree.proofs.lemmas.tree.Keys.{entries_of_map-map}
use Rattle.qs_tree.proofs.lemmas.tree.NodeCounts.{entry_nodes, map_nodes, entry_last}
use Rattle.qs_tree.proofs.tree.dropping.without_last_entry.Goals as goal

pub loop-last-preserved-after-last : goal.loop-last-preserved-after-last
loop-last-preserved-after-last c = omega (arith, c.loop-last.invariant, ap entry_nodes c.in-Some.ensures.all ∙ entry_last tree_of c.pop.new.self c.in-Some.field-0-0 c.in-Some.last)

pub loop-last-preserved-after-last-2 : goal.loop-last-preserved-after-last-2
loop-last-preserved-after-last-2 c = omega (arith, c.loop-last.invariant, ap entry_nodes c.in-Some.ensures.all ∙ entry_last tree_of c.pop.new.self c.in-Some.field-0-0 c.in-Some.last)

pub loop-last-preserved : goal.loop-last-preserved
loop-last-preserved c = omega (arith, c.loop-last.invariant, ap entry_nodes c.in-Some.ensures.all ∙ entry_last tree_of c.pop.new.self c.in-Some.field-0-0 c.in-Some.last)

pub returns-then-len-eq0 : goal.returns-then-len-eq0
returns-then-len-eq0 c =
    let es = c.pop.new.self in
    let all = ap entry_nodes c.in-Some.ensures.all ∙ entry_last tree_of es c.in-Some.field-0-0 c.in-Some.last in
    omega (arith, c.loop-last.invariant, all, ap entries_node_count (entries_of_map-map c.args.map))

pub returns-in_default-last : goal.returns-in_default-last
returns-in_default-last c =
    let es = c.pop.new.self in
    let all = ap entry_nodes c.in-Some.ensures.all ∙ entry_last tree_of es c.in-Some.field-0-0 c.in-Some.last in
    omega (arith, c.loop-last.invariant, all, ap entries_node_count (entries_of_map-map c.args.map), c.drop_first_leaf.ensures.0, map_nodes (roll-ParsedMap (record { map = es })))
