use Rattle.qs_data.proofs.Common.{◌≡◌, ◌+◌, ◌≤◌, length, [], ◌∷◌, ◌++◌, map, ap, sym, subst, ◌∙◌, Some, Ok, option_map, arith, common_steps, is_utf8, any_data, read_pairs, key_data, ParsedSegment, segment_text, KeyShape, Tree, tree_of, entries_of_map, parsed_segment_of_key, entry_list, entries_after, Visits, map_begun, is_text, data_of, pair_of}
use Rattle.qs_spec.specs.Data as d
use Rattle.qs_data.specs.declared.read.nested.Partial.TheVariants as frame
use Rattle.qs_data.specs.declared.read.nested.Visited.{Visited}
use Rattle.qs_data.proofs.lemmas.read.Nesting.{enters_map, advance_exit, map_string_key, map_text, map_text_after, map_parts}
use Rattle.qs_data.proofs.lemmas.read.Pairs.{pairs_more, pairs_no_key, pairs_no_value, pairs_end, pairs_all}
use Rattle.qs_data.proofs.read.nested.PartialMap.advance.Goals as goal
use Rattle.qs_data.proofs.read.nested.PartialMap.advance.Goals.{else-loop-place-test, then-loop-place-test+in_default}

pub returns-in_err-key : goal.returns-in_err-key
returns-in_err-key c =
    let l = c.loop-place in
    let es = entries_of_map l.self.entries.now in
    let x : ParsedSegment × Tree = (parsed_segment_of_key c.in-Some.key.now, tree_of c.in-Some.value.now) in
    let here = sym c.in-Some.ensures.value in
    let whole = option_map (λ ps. d.Data.mapping (d.pairs_of ps)) in
    advance_exit (is_utf8 (segment_text x.0.segment)) c.from_residual.result c.in_err-key.field-0.0 (key_data KeyShape.text (segment_text x.0.segment)) (frame.Map c.args.self.now) (frame.Map l.self)
    c.from_residual.ensures.1 c.in_err-key.ensures (λ e. l.invariant.value ∙ ap whole (pairs_no_key KeyShape.text any_data es l.place (map pair_of l.self.pairs.items) x here e))
    (λ e. l.invariant.text (map_string_key es l.place x here e))

pub returns-in_err-data : goal.returns-in_err-data
returns-in_err-data c =
    let l = c.loop-place in
    let es = entries_of_map l.self.entries.now in
    let x : ParsedSegment × Tree = (parsed_segment_of_key c.in-Some.key.now, tree_of c.in-Some.value.now) in
    let here = sym c.in-Some.ensures.value in
    let whole = option_map (λ ps. d.Data.mapping (d.pairs_of ps)) in
    advance_exit (is_text x.1) c.from_residual-in_err-data.result c.in_err-data.field-0.0 (any_data x.1) (frame.Map c.args.self.now) (frame.Map l.self) c.from_residual-in_err-data.ensures.1
    c.in_err-data.ensures (λ e. l.invariant.value ∙ ap whole (pairs_no_value KeyShape.text any_data es l.place (map pair_of l.self.pairs.items) x here e))
    (λ e. l.invariant.text (map_text es l.place x here e))

pub returns-in-Inner : goal.returns-in-Inner
returns-in-Inner c =
    let l = c.loop-place in
    let es = entries_of_map l.self.entries.now in
    let x : ParsedSegment × Tree = (parsed_segment_of_key c.in-Some.key.now, tree_of c.in-Some.value.now) in
    let P : Visited → Type 0 = λ node. Visits (Ok node) x.1 in
    let begun = subst P c.in-Inner.is c.in_ok-data.ensures in
    let w = c.keep_key in
    let key : key_data KeyShape.text (segment_text x.0.segment) ≡ Some (data_of w.new.self.key) = c.in_ok-key.ensures ∙ ap (λ k. Some (data_of k)) (sym w.ensures.key) in
    let value = l.invariant.value ∙ ap (λ ps. map_begun (map pair_of ps.items) (read_pairs KeyShape.text any_data (entries_after l.place es))) (sym w.ensures.pairs) in
    enters_map (frame.Map c.args.self.now) c.in-Inner.frame w.new.self es l.place x (sym c.in-Some.ensures.value) (ap (λ e. entries_of_map e.now) w.ensures.entries) w.ensures.next key value l.invariant.text
    l.invariant.size begun

pub loop-place-preserved : goal.loop-place-preserved
loop-place-preserved c =
    let l = c.loop-place in
    let es = entries_of_map l.self.entries.now in
    let x : ParsedSegment × Tree = (parsed_segment_of_key c.in-Some.key.now, tree_of c.in-Some.value.now) in
    let here = sym c.in-Some.ensures.value in
    let ws = map pair_of l.self.pairs.items in
    let a = data_of c.in_ok-key.key in
    let b = data_of c.in-Leaf.data in
    let P : Visited → Type 0 = λ node. Visits (Ok node) x.1 in
    let leaf : any_data x.1 ≡ Some b = subst P c.in-Leaf.is c.in_ok-data.ensures in
    let pushed : map pair_of c.push.new.self.items ≡ ws ++ (a, b) ∷ [] = grind (arith, common_steps) in
    record {
      value = l.invariant.value ∙ ap (option_map (λ ps. d.Data.mapping (d.pairs_of ps))) (pairs_more KeyShape.text any_data es l.place ws x here a b c.in_ok-key.ensures leaf)
          ∙ ap (λ ys. map_begun ys (read_pairs KeyShape.text any_data (entries_after (l.place + 1) es))) (sym pushed);
      text = λ e. l.invariant.text (map_text_after es l.place x here e);
      size = let parts = map_parts es l.place x here in let within = l.invariant.size in omega arith;
      same = l.invariant.same;
    }

pub returns : goal.returns
returns c =
    let l = c.loop-place in
    let es = entries_of_map l.self.entries.now in
    let ws = map pair_of l.self.pairs.items in
    let whole = option_map (λ ps. d.Data.mapping (d.pairs_of ps)) in
    elim c.loop-place-test.branch [
      | else-loop-place-test w ↦
          let same : length (entry_list es) ≡ length (entry_list (entries_of_map c.args.self.now.entries.now)) = ap (λ m. length (entry_list (entries_of_map m))) l.invariant.same in
          let all : length (entry_list es) ≤ l.place = omega (arith, same, c.len-place-end.ensures, w.loop-place-test.false) in
          l.invariant.value ∙ ap whole (pairs_all KeyShape.text any_data es l.place ws all)
      | then-loop-place-test+in_default w ↦ l.invariant.value ∙ ap whole (pairs_end KeyShape.text any_data es l.place ws (sym w.in_default.ensures.value))
    ]
