use Rattle.std.proofs.Common.{◌≡◌, ◌+◌, ◌++◌, ◌∷◌, [], ◌⊎◌, inl, inr, ◌≤◌, true, None, length, slice_get, sym, ap, ◌∙◌, append_assoc, arith}
use Rattle.json.specs.Token.{begin_array, begin_object}
use Rattle.json.specs.Tree.{json_tokens, items_tokens, members_tokens}
use Rattle.qs_spec.specs.Node.{keys_are_text}
use Rattle.qs_spec.specs.Segment.{ParsedSegment}
use Rattle.qs_spec.specs.Tree.{Tree}
use Rattle.qs_tree.specs.tree.Views.{tree_of, entries_of_map, entry_list, parsed_segment_of_key}
use Rattle.qs_data.proofs.lemmas.read.Entries.{keys_bad}
use Rattle.qs_data.specs.read.Entries.{entries_after}
use Rattle.qs_data.specs.read.TreeText.{entries_are_text}
use Rattle.qs_c.specs.Trees.{json_of_tree, json_of_values, json_of_entries, values_have_names, entries_have_names}
use Rattle.qs_c.proofs.Parts.{part_fails, null_passes, nothing_passes, nothing_left, entry_counts, values_tokens, entries_tokens, text_left, item_fails, key_fails, value_fails, values_left, names_left, place_is_text, places_left}
use Rattle.qs_c.proofs.trees.+show.Goals as goal
use Rattle.qs_c.proofs.trees.+show.Goals.{show_entries-else-loop-i-test, show_entries-then-loop-i-test+in_default, show_values-else-loop-i-test, show_values-then-loop-i-test+in_default}

pub show-returns-in_ok-null-in-NoValue-clause-passes : goal.show-returns-in_ok-null-in-NoValue-clause-passes
show-returns-in_ok-null-in-NoValue-clause-passes t c = nothing_passes c.args.node.now c.in-NoValue.is

pub show-returns-in_ok-string-in-Null-clause-passes : goal.show-returns-in_ok-string-in-Null-clause-passes
show-returns-in_ok-string-in-Null-clause-passes t c = null_passes c.args.node.now c.in-Null.is

pub show_values-show-requires : goal.show_values-show-requires
show_values-show-requires t c =
    let x : ParsedSegment × Tree = (parsed_segment_of_key c.in-Some.field-0-0.now, tree_of c.in-Some.value.now) in
    (omega (arith, entry_counts c.loop-i.i (entries_of_map c.args.map.now) x c.in-Some.ensures.value, c.decreases), tt)

pub show_values-returns-in_err-show-clause-passes : goal.show_values-returns-in_err-show-clause-passes
show_values-returns-in_err-show-clause-passes t c =
    let es = entries_of_map c.args.map.now in
    let x : ParsedSegment × Tree = (parsed_segment_of_key c.in-Some.field-0-0.now, tree_of c.in-Some.value.now) in
    let inv = c.loop-i.invariant in
    item_fails c.loop-i.i es x c.in-Some.ensures.value inv.1 c.from_residual-in_err-show.result c.in_err-show.field-0.0 c.from_residual-in_err-show.ensures.1 inv.2 c.in_err-show.ensures.passes

pub show_values-loop-i-preserved : goal.show_values-loop-i-preserved
show_values-loop-i-preserved t c =
    let i = c.loop-i.i in
    let es = entries_of_map c.args.map.now in
    let x : ParsedSegment × Tree = (parsed_segment_of_key c.in-Some.field-0-0.now, tree_of c.in-Some.value.now) in
    let here = c.in-Some.ensures.value in
    let inv = c.loop-i.invariant in
    let shown = c.in_ok-show.ensures in (
      ap (λ ts. ts ++ items_tokens (json_of_values (entries_after (i + 1) es))) shown.tokens ∙ sym (values_tokens i es x here c.loop-i.writer.tokens) ∙ inv.0,
      text_left i es x here inv.1 (place_is_text i es x here inv.3) shown.passes.0,
      inv.2 ∙ values_left i es x here shown.passes.1,
      places_left i es x here inv.3,
      shown.before ∙ inv.4,
    )

pub show_values-returns-clause-tokens : goal.show_values-returns-clause-tokens
show_values-returns-clause-tokens t c =
    let i = c.loop-i.i in
    let es = entries_of_map c.args.map.now in
    let all = items_tokens (json_of_values es) in
    let left : (length (entry_list es) ≤ i) ⊎ (None ≡ slice_get (entry_list es) i) = elim c.loop-i-test.branch [
      | show_values-else-loop-i-test w ↦ inl (omega (arith, c.len-i-end.ensures, w.loop-i-test.false))
      | show_values-then-loop-i-test+in_default w ↦ inr w.in_default.ensures.value
    ] in
    c.in_ok-end_array.ensures.ok ∙ ap (λ e. c.loop-i.writer.tokens ++ items_tokens (json_of_values e)) (sym (nothing_left i es left)) ∙ c.loop-i.invariant.0
    ∙ ap (λ ts. ts ++ all) c.in_ok-begin_array.ensures.ok ∙ append_assoc c.args.writer.now.tokens (begin_array ∷ []) all

pub show_values-returns-clause-passes : goal.show_values-returns-clause-passes
show_values-returns-clause-passes t c =
    let i = c.loop-i.i in
    let es = entries_of_map c.args.map.now in
    let inv = c.loop-i.invariant in
    let left : (length (entry_list es) ≤ i) ⊎ (None ≡ slice_get (entry_list es) i) = elim c.loop-i-test.branch [
      | show_values-else-loop-i-test w ↦ inl (omega (arith, c.len-i-end.ensures, w.loop-i-test.false))
      | show_values-then-loop-i-test+in_default w ↦ inr w.in_default.ensures.value
    ] in
    (inv.1 ∙ ap entries_are_text (nothing_left i es left), inv.2 ∙ ap values_have_names (nothing_left i es left))

pub show_entries-returns-in_err-test_keys-clause-passes : goal.show_entries-returns-in_err-test_keys-clause-passes
show_entries-returns-in_err-test_keys-clause-passes t c =
    let es = entries_of_map c.args.map.now in
    part_fails c.from_residual.result c.in_err-test_keys.field-0.0 (keys_are_text es) true (entries_are_text es) (entries_have_names es es) c.from_residual.ensures.1 c.in_err-test_keys.ensures
    (keys_bad es) (λ bad. absurd cc)

pub show_entries-returns-in_err-show_key-clause-passes : goal.show_entries-returns-in_err-show_key-clause-passes
show_entries-returns-in_err-show_key-clause-passes t c =
    let es = entries_of_map c.args.map.now in
    let x : ParsedSegment × Tree = (parsed_segment_of_key c.in-Some.key.now, tree_of c.in-Some.value.now) in
    let inv = c.loop-i.invariant in
    key_fails c.loop-i.i es x c.in-Some.ensures.value inv.1 c.from_residual-in_err-show_key.result c.in_err-show_key.field-0.0 c.from_residual-in_err-show_key.ensures.1 inv.2 c.in_err-show_key.ensures.passes

pub show_entries-returns-in_err-show-clause-passes : goal.show_entries-returns-in_err-show-clause-passes
show_entries-returns-in_err-show-clause-passes t c =
    let es = entries_of_map c.args.map.now in
    let x : ParsedSegment × Tree = (parsed_segment_of_key c.in-Some.key.now, tree_of c.in-Some.value.now) in
    let inv = c.loop-i.invariant in
    value_fails c.loop-i.i es x c.in-Some.ensures.value inv.1 c.from_residual-in_err-show.result c.in_err-show.field-0.0 c.from_residual-in_err-show.ensures.1 inv.2 c.in_err-show.ensures.passes

pub show_entries-show-requires : goal.show_entries-show-requires
show_entries-show-requires t c =
    let x : ParsedSegment × Tree = (parsed_segment_of_key c.in-Some.key.now, tree_of c.in-Some.value.now) in
    (omega (arith, entry_counts c.loop-i.i (entries_of_map c.args.map.now) x c.in-Some.ensures.value, c.decreases), tt)

pub show_entries-loop-i-preserved : goal.show_entries-loop-i-preserved
show_entries-loop-i-preserved t c =
    let i = c.loop-i.i in
    let es = entries_of_map c.args.map.now in
    let x : ParsedSegment × Tree = (parsed_segment_of_key c.in-Some.key.now, tree_of c.in-Some.value.now) in
    let here = c.in-Some.ensures.value in
    let inv = c.loop-i.invariant in
    let named = c.in_ok-show_key.ensures in
    let shown = c.in_ok-show.ensures in
    let written = shown.tokens ∙ ap (λ ts. ts ++ json_tokens (json_of_tree x.1)) named.tokens in (
      ap (λ ts. ts ++ members_tokens (json_of_entries (entries_after (i + 1) es))) written ∙ sym (entries_tokens i es x here c.loop-i.writer.tokens) ∙ inv.0,
      text_left i es x here inv.1 named.passes.0 shown.passes.0,
      inv.2 ∙ names_left i es x here named.passes.1 shown.passes.1,
      shown.before ∙ named.before ∙ inv.3,
    )

pub show_entries-returns-clause-tokens : goal.show_entries-returns-clause-tokens
show_entries-returns-clause-tokens t c =
    let i = c.loop-i.i in
    let es = entries_of_map c.args.map.now in
    let all = members_tokens (json_of_entries es) in
    let left : (length (entry_list es) ≤ i) ⊎ (None ≡ slice_get (entry_list es) i) = elim c.loop-i-test.branch [
      | show_entries-else-loop-i-test w ↦ inl (omega (arith, c.len-i-end.ensures, w.loop-i-test.false))
      | show_entries-then-loop-i-test+in_default w ↦ inr w.in_default.ensures.value
    ] in
    c.in_ok-end_object.ensures.ok ∙ ap (λ e. c.loop-i.writer.tokens ++ members_tokens (json_of_entries e)) (sym (nothing_left i es left)) ∙ c.loop-i.invariant.0
    ∙ ap (λ ts. ts ++ all) c.in_ok-begin_object.ensures.ok ∙ append_assoc c.args.writer.now.tokens (begin_object ∷ []) all

pub show_entries-returns-clause-passes : goal.show_entries-returns-clause-passes
show_entries-returns-clause-passes t c =
    let i = c.loop-i.i in
    let es = entries_of_map c.args.map.now in
    let inv = c.loop-i.invariant in
    let left : (length (entry_list es) ≤ i) ⊎ (None ≡ slice_get (entry_list es) i) = elim c.loop-i-test.branch [
      | show_entries-else-loop-i-test w ↦ inl (omega (arith, c.len-i-end.ensures, w.loop-i-test.false))
      | show_entries-then-loop-i-test+in_default w ↦ inr w.in_default.ensures.value
    ] in
    (inv.1 ∙ ap entries_are_text (nothing_left i es left), inv.2 ∙ ap (entries_have_names es) (nothing_left i es left))
