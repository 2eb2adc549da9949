use Rattle.qs_tree.proofs.Common.{◌≡◌, ◌+◌, ◌<◌, length, ap, ◌∙◌, arith, Map, roll-ParsedMap, tree_of}
use Rattle.std.specs.Vec.{with_item}
use Rattle.qs_tree.proofs.lemmas.tree.NodeCounts.{nodes, entry_nodes, item_nodes, map_nodes, sequence_nodes, entry_put, entry_within, item_put, item_within, no_entry_nodes, no_item_nodes}
use Rattle.qs_tree.proofs.tree.dropping.drop_first_leaf.Goals as goal

pub returns-then-len-eq0 : goal.returns-then-len-eq0
returns-then-len-eq0 c =
    let m = c.in-Map.map in
    let before : nodes c.loop-tree.tree ≡ 2 + entry_nodes m.map = ap nodes c.in-Map.is ∙ map_nodes m in
    let none : entry_nodes m.map ≡ 0 = no_entry_nodes m.map (omega (arith, c.if-len-eq0.true, c.len.ensures, ap length c.into_entries-entries.ensures)) in
    (omega (arith, c.loop-tree.invariant, before, none), omega (arith, c.loop-tree.invariant, before, none))

pub returns-then-is_empty : goal.returns-then-is_empty
returns-then-is_empty c =
    let v = c.in-Sequence.items in
    let before : nodes c.loop-tree.tree ≡ 2 + item_nodes v.items = ap nodes c.in-Sequence.is ∙ sequence_nodes v in
    let empty : length v.items ≡ 0 = Prim.grind (arith, v.ok.0, c.is_empty.ensures, c.if-is_empty.true) in
    let none : item_nodes v.items ≡ 0 = no_item_nodes v.items empty in
    (omega (arith, c.loop-tree.invariant, before, none), omega (arith, c.loop-tree.invariant, before, none))

pub loop-tree-smaller-in-Map : goal.loop-tree-smaller-in-Map
loop-tree-smaller-in-Map c =
    let m = c.in-Map.map in
    let before : nodes c.loop-tree.tree ≡ 2 + entry_nodes m.map = ap nodes c.in-Map.is ∙ map_nodes m in
    let old = rw c.into_entries-entries.ensures at c.replace-tree.ensures.old in
    omega (arith, before, entry_within tree_of m.map 0 c.replace-tree.result old)

pub loop-tree-preserved-in-Map : goal.loop-tree-preserved-in-Map
loop-tree-preserved-in-Map c =
    let m = c.in-Map.map in
    let es = c.replace-tree.new.self in
    let before : nodes c.loop-tree.tree ≡ 2 + entry_nodes m.map = ap nodes c.in-Map.is ∙ map_nodes m in
    let after : nodes (Map (roll-ParsedMap (record { map = es }))) ≡ 2 + entry_nodes es = map_nodes (roll-ParsedMap (record { map = es })) in
    let old = rw c.into_entries-entries.ensures at c.replace-tree.ensures.old in
    let new = rw c.into_entries-entries.ensures at c.replace-tree.ensures.new in
    omega (arith, c.loop-tree.invariant, before, after, ap entry_nodes new, entry_put tree_of m.map 0 c.replace-tree.result c.loop-tree.above old)

pub loop-tree-smaller : goal.loop-tree-smaller
loop-tree-smaller c =
    let v = c.in-Sequence.items in
    let x = c.index_mut.result.now in
    let before : nodes c.loop-tree.tree ≡ 2 + item_nodes v.items = ap nodes c.in-Sequence.is ∙ sequence_nodes v in
    let some : 0 < length v.items = Prim.grind (arith, v.ok.0, c.is_empty.ensures, c.if-is_empty.false) in
    omega (arith, before, ap nodes (c.replace-tree-in-Sequence.ensures.value ∙ c.index_mut.ensures.value), item_within v.items 0 x some)

pub loop-tree-preserved : goal.loop-tree-preserved
loop-tree-preserved c =
    let v = c.in-Sequence.items in
    let x = c.index_mut.result.now in
    let new = c.replace-tree-in-Sequence.new.dest in
    let before : nodes c.loop-tree.tree ≡ 2 + item_nodes v.items = ap nodes c.in-Sequence.is ∙ sequence_nodes v in
    let some : 0 < length v.items = Prim.grind (arith, v.ok.0, c.is_empty.ensures, c.if-is_empty.false) in
    omega (arith, c.loop-tree.invariant, before, sequence_nodes (with_item v 0 new), ap nodes (c.replace-tree-in-Sequence.ensures.value ∙ c.index_mut.ensures.value), ap nodes c.replace-tree-in-Sequence.ensures.after, item_put v.items 0 x new some)
