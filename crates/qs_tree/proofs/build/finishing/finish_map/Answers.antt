use Rattle.qs_tree.proofs.Common.{◌≡◌, [], ◌∷◌, length, sym, ap, ◌∙◌, append-nil, length-append, arith, mapping, OuterLevel, entries_from, built_entries, level_pairs, with_node}
use Rattle.qs_tree.proofs.lemmas.tree.Keys.{entries_of_map-map}
use Rattle.qs_tree.proofs.lemmas.build.Levels.{maps_on_stack, taken, put_back, in_order, in_order-last, last_in_order, maps_on_stack-last}
use Rattle.qs_tree.proofs.build.finishing.finish_map.Goals as goal

pub loop-stack-smaller : goal.loop-stack-smaller
loop-stack-smaller c =
    let w : OuterLevel = record { level = c.next_map.new.self; key = c.in-Some.key } in
    let ws = c.loop-stack.stack.items in
    omega (arith, rw c.in-Some.is at c.in_ok-key.ensures.fewer, c.in_ok-inner.ensures.maps, ap length c.in_ok-push.ensures.items, length-append ws (w ∷ []), ap maps_on_stack c.in_ok-push.ensures.items, maps_on_stack-last w ws)

pub loop-stack-preserved : goal.loop-stack-preserved
loop-stack-preserved c =
    let w : OuterLevel = record { level = c.next_map.new.self; key = c.in-Some.key } in
    let ws = c.loop-stack.stack.items in
    let es = built_entries c.in-Some.map in
    let same : with_node w (mapping es) ≡ level_pairs c.loop-stack.level = rw c.in-Some.is at c.in_ok-key.ensures.pairs in
    record {
      all = rw c.in_ok-push.ensures.items (taken w ws c.loop-stack.level c.in_ok-inner.inner es _ same c.in_ok-inner.ensures c.loop-stack.invariant.all);
      sorted = c.in_ok-inner.ensures.sorted;
      stack = rw c.in_ok-push.ensures.items (in_order-last w ws c.loop-stack.invariant.stack (in_order w (mapping es) (rw same c.loop-stack.invariant.sorted)));
    }

pub resume-requires : goal.resume-requires
resume-requires c = (last_in_order c.in-Some-pop.outer c.pop.new.self.items (rw c.in-Some-pop.ensures.items at c.loop-stack.invariant.stack)).1 _

pub loop-stack-smaller-in_default : goal.loop-stack-smaller-in_default
loop-stack-smaller-in_default c =
    let w = c.in-Some-pop.outer in
    let ws = c.pop.new.self.items in
    omega (arith, c.in_ok-level-2.ensures.same, ap length c.in-Some-pop.ensures.items, length-append ws (w ∷ []), ap maps_on_stack c.in-Some-pop.ensures.items, maps_on_stack-last w ws)

pub loop-stack-preserved-in_default : goal.loop-stack-preserved-in_default
loop-stack-preserved-in_default c =
    let w = c.in-Some-pop.outer in
    let ws = c.pop.new.self.items in
    let stack = last_in_order w ws (rw c.in-Some-pop.ensures.items at c.loop-stack.invariant.stack) in
    record {
      all = put_back w ws c.loop-stack.level c.in_ok-level-2.level _ _ c.in_ok-level-2.ensures.pairs
          (entries_of_map-map _ ∙ ap entries_from (sym (append-nil _) ∙ rw c.in_default.is at c.in_ok-key.ensures.pairs))
          (rw c.in-Some-pop.ensures.items at c.loop-stack.invariant.all);
      sorted = rw c.in_ok-level-2.ensures.pairs (stack.1 _);
      stack = stack.0;
    }
