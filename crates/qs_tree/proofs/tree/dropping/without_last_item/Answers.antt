use Rattle.qs_tree.proofs.Common.{ap, arith}
use Rattle.qs_tree.proofs.lemmas.tree.NodeCounts.{item_nodes, sequence_nodes, item_last}
use Rattle.qs_tree.proofs.tree.dropping.without_last_item.Goals as goal

pub loop-last-preserved-after-last : goal.loop-last-preserved-after-last
loop-last-preserved-after-last c = omega (arith, c.loop-last.invariant, ap item_nodes c.in-Some.ensures.items, item_last c.pop.new.self.items c.in-Some.last)

pub loop-last-preserved-after-last-2 : goal.loop-last-preserved-after-last-2
loop-last-preserved-after-last-2 c = omega (arith, c.loop-last.invariant, ap item_nodes c.in-Some.ensures.items, item_last c.pop.new.self.items c.in-Some.last)

pub loop-last-preserved : goal.loop-last-preserved
loop-last-preserved c = omega (arith, c.loop-last.invariant, ap item_nodes c.in-Some.ensures.items, item_last c.pop.new.self.items c.in-Some.last)

pub returns-in_default-last : goal.returns-in_default-last
returns-in_default-last c =
    let v = c.pop.new.self in
    omega (arith, c.loop-last.invariant, ap item_nodes c.in-Some.ensures.items, item_last v.items c.in-Some.last, c.drop_first_leaf.ensures.0, sequence_nodes v)
