use Rattle.qs_tree.proofs.Common.{Ok, ◌∙◌, sym, subst, arith, refl, ap, length, whole_tree, pair_of, left, to_come, IsEnd, IsMore, ParsesItem, ParsesUnallocated}
use Rattle.qs_tree.proofs.lemmas.Growing.{grown_same, grown_pair}
use Rattle.qs_tree.proofs.lemmas.scan.UnallocatedItems.{unallocated_start, unallocated_end, unallocated_goes, unallocated_ampersand, unallocated_fresh, unallocated_leaves}
use Rattle.qs_tree.proofs.parsing.scan.Goals as goal

pub returns-in-End-clause-end : goal.returns-in-End-clause-end
returns-in-End-clause-end c =
    let ended = c.in-Ok.ensures.end (subst (λ i. IsEnd (Ok i)) (sym c.in-End.is) tt) in
    omega (arith, ap to_come ended, ap length (c.in-Ok.ensures.moves.end ended))

pub returns-in-End-clause-no_allocation : goal.returns-in-End-clause-no_allocation
returns-in-End-clause-no_allocation c = λ unallocated fresh. unallocated_leaves c.loop-item.cursor.rest.now c.loop-item.tree (c.loop-item.invariant.unallocated unallocated fresh)

pub loop-item-preserved-in-Ampersand : goal.loop-item-preserved-in-Ampersand
loop-item-preserved-in-Ampersand c =
    let pair = c.parse_item.new.pair in
    let old = c.loop-item.cursor in
    let new = c.parse_item.new.cursor in
    let depth = c.args.max_depth in
    let before = c.loop-item.invariant in
    let read = subst (λ i. ParsesItem depth (left old) (Ok i) new pair) c.in-Ampersand.is c.in-Ok.ensures.item in
    let shorter = c.in-Ok.ensures.shorter (subst (λ i. IsMore (Ok i)) (sym c.in-Ampersand.is) tt) in
    record {
      grows = sym (grown_same depth (left old) (whole_tree c.loop-item.tree) (left new) read) ∙ before.grows;
      fewer = omega (arith, shorter, before.fewer);
      steps = c.in-Ok.ensures.moves.steps ∙ before.steps;
      end = c.in-Ok.ensures.moves.end;
      unallocated = λ unallocated fresh. unallocated_ampersand old.rest.now new.rest.now c.loop-item.tree shorter (before.unallocated unallocated fresh)
          (subst (λ i. ParsesUnallocated (Ok i) new pair) c.in-Ampersand.is (unallocated_goes old.rest.now c.loop-item.tree (Ok c.in-Ok.item) new pair (before.unallocated unallocated fresh) c.in-Ok.ensures.unallocated));
    }

pub loop-item-preserved : goal.loop-item-preserved
loop-item-preserved c =
    let old = c.loop-item.cursor in
    let new = c.parse_item.new.cursor in
    let depth = c.args.max_depth in
    let before = c.loop-item.invariant in
    let pair = c.parse_item.new.pair in
    let read = subst (λ i. ParsesItem depth (left old) (Ok i) new pair) c.in-Pair.is c.in-Ok.ensures.item in
    let shorter = c.in-Ok.ensures.shorter (subst (λ i. IsMore (Ok i)) (sym c.in-Pair.is) tt) in
    record {
      grows = sym (grown_pair depth (left old) (whole_tree c.loop-item.tree) (left new) (pair_of pair) (whole_tree c.add.new.tree) read c.in_ok-add-in-Pair.ensures.tree) ∙ before.grows;
      fewer = omega (arith, shorter, before.fewer);
      steps = c.in-Ok.ensures.moves.steps ∙ before.steps;
      end = c.in-Ok.ensures.moves.end;
      unallocated = λ unallocated fresh.
          let root_value = subst (λ i. ParsesUnallocated (Ok i) new pair) c.in-Pair.is (unallocated_goes old.rest.now c.loop-item.tree (Ok c.in-Ok.item) new pair (before.unallocated unallocated fresh) c.in-Ok.ensures.unallocated) in
          unallocated_end new.rest.now c.add.new.tree root_value.1 (c.in_ok-add-in-Pair.ensures.fresh root_value.0 (unallocated_fresh old.rest.now new.rest.now c.loop-item.tree shorter (before.unallocated unallocated fresh)));
    }

pub loop-item-init : goal.loop-item-init
loop-item-init c = record {
  grows = refl;
  fewer = omega arith;
  steps = refl;
  end = c.requires.end;
  unallocated = λ unallocated fresh. unallocated_start c.args.cursor.now.rest.now c.args.tree.now unallocated fresh;
}
