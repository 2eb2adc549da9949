use Rattle.qs_data.proofs.Common.{◌≡◌, ◌+◌, ◌≤◌, length, drop, [], ◌∷◌, ◌++◌, map, ap, sym, subst, ◌∙◌, Some, None, Ok, option_map, arith, common_steps, any_data, read_each, tree_of, items_view, first_item, Visits, list_begun, data_of}
use Rattle.qs_spec.specs.Data as d
use Rattle.qs_data.specs.declared.read.nested.Partial.TheVariants as frame
use Rattle.qs_data.specs.declared.read.nested.Visited.{Visited}
use Rattle.qs_data.proofs.lemmas.read.Items.{each_more, each_end, each_all}
use Rattle.qs_data.proofs.lemmas.read.Nesting.{enters_list, list_text_after, list_parts}
use Rattle.qs_data.proofs.read.nested.PartialList.advance.Goals as goal
use Rattle.qs_data.proofs.read.nested.PartialList.advance.Goals.{else-loop-place-test, then-loop-place-test+in_ok-item+in_default}

pub returns-in-Inner : goal.returns-in-Inner
returns-in-Inner c =
    let l = c.loop-place in
    let n = tree_of c.in-Some.item.now in
    let P : Visited → Type 0 = λ node. Visits (Ok node) n in
    let here : first_item (drop l.place (items_view l.self.items)) ≡ Some (Some n) = c.in_ok-item.ensures ∙ ap (λ o. Some (option_map (λ v. tree_of v.now) o)) c.in-Some.is in
    let begun = subst P c.in-Inner.is c.in_ok-data.ensures in
    enters_list (frame.List c.args.self.now) c.in-Inner.frame l.self.items l.self.values l.place n here l.invariant.value l.invariant.text l.invariant.size begun

pub loop-place-preserved : goal.loop-place-preserved
loop-place-preserved c =
    let l = c.loop-place in
    let xs = items_view l.self.items in
    let n = tree_of c.in-Some.item.now in
    let ws = map data_of l.self.values.items in
    let x = data_of c.in-Leaf.data in
    let P : Visited → Type 0 = λ node. Visits (Ok node) n in
    let here : first_item (drop l.place xs) ≡ Some (Some n) = c.in_ok-item.ensures ∙ ap (λ o. Some (option_map (λ v. tree_of v.now) o)) c.in-Some.is in
    let leaf : any_data n ≡ Some x = subst P c.in-Leaf.is c.in_ok-data.ensures in
    let pushed : map data_of c.push.new.self.items ≡ ws ++ x ∷ [] = grind (arith, common_steps) in
    record {
      value = l.invariant.value ∙ ap (option_map (λ ds. d.Data.sequence (d.values_of ds))) (each_more any_data xs l.place ws n x here leaf)
          ∙ ap (λ ys. list_begun ys (read_each any_data (drop (l.place + 1) xs))) (sym pushed);
      text = λ e. l.invariant.text (list_text_after xs l.place n here e);
      size = let parts = list_parts xs l.place n here in let within = l.invariant.size in omega arith;
      same = l.invariant.same;
    }

pub returns : goal.returns
returns c =
    let l = c.loop-place in
    let xs = items_view l.self.items in
    let ws = map data_of l.self.values.items in
    let whole = option_map (λ ds. d.Data.sequence (d.values_of ds)) in
    elim c.loop-place-test.branch [
      | else-loop-place-test w ↦
          let same : length xs ≡ length (items_view c.args.self.now.items) = ap (λ i. length (items_view i)) l.invariant.same in
          let all : length xs ≤ l.place = omega (arith, same, c.len-place-end.ensures, w.loop-place-test.false) in
          l.invariant.value ∙ ap whole (each_all any_data xs l.place ws all)
      | then-loop-place-test+in_ok-item+in_default w ↦
          let here : first_item (drop l.place xs) ≡ Some None = w.in_ok-item.ensures ∙ ap (λ o. Some (option_map (λ v. tree_of v.now) o)) w.in_default.is in
          l.invariant.value ∙ ap whole (each_end any_data xs l.place ws here)
    ]
