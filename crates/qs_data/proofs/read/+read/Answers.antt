use Rattle.qs_data.proofs.Common.{◌≡◌, ◌+◌, ◌<◌, ◌++◌, ◌||◌, ◌∷◌, [], ap, sym, subst, refl, ◌∙◌, length, slice_get, map, drop, true, false, Some, None, Ok, Err, option_map, string_bytes, rules, arith, common_steps, is_utf8, segment_text, ParsedSegment, mapping, leaf, sequence, uninitialized, entry, no_entries, are_ignored, Shape, no_items, found, as_map, under_empty, keys_are_text, keys_are_names, keys_are_allowed, items, sequence_items, reads_names, reads_places, reads_variant, reads_kind, read_option, read_field, read_place, read_each, read_pairs, reads_tuple, tree_of, items_from, entries_of_map, parsed_segment_of_key, data_of, named, pair_of, shape_of, kind_of, field_of, fields_in, variant_of, variants_in, key_shape_of, shapes_in, is_text, items_are_text, entries_are_text, entries_view, entries_after, unknown_of, variant_named, key_data, Tree, false≢true, option_and_then, items_view, first_item, are_text, when, ReadRejects, Rejects}
use Rattle.std.specs.Prelude.{IfErr}
use Rattle.qs_spec.specs.Data as d
use Rattle.qs_spec.specs.Leaf.Leaf.{NoValue, Null}
use Rattle.qs_spec.specs.Segment.Segment.{Int, Str}
use Rattle.qs_spec.specs.Shape.{UnknownKeys, is_option as is_option_shape, newtype_kind, struct_kind, tuple_kind}
use Rattle.qs_spec.specs.internal.ReadFunction.{reads, read_enum, struct_members, read_list}
use Rattle.qs_tree.specs.declared.tree.value.ParsedValue as value
use Rattle.qs_tree.specs.declared.error.Error.TheVariants.{Utf8}
use Rattle.qs_data.specs.declared.shape.shape.Shape as shape
use Rattle.qs_data.specs.declared.shape.shape.VariantKind as kinds
use Rattle.qs_data.specs.declared.shape.shape.Field.{out-Field}
use Rattle.qs_data.specs.failure.Fails.{Fails, GivesOrFails, error_in}
use Rattle.qs_data.specs.failure.Own.{IsOwn, names_variant}
use Rattle.qs_data.specs.failure.Parts.{IsHeld, IsItem, IsNamed, IsPlaced, IsTupleItem, IsValue, shape_at}
use Rattle.qs_data.specs.failure.Unexpected.{unexpected_key}
use Rattle.qs_data.specs.failure.internal.Failing.{FailsFields, FailsHeld, FailsIn, IsHere, IsPlacedAt, IsUnder}
use Rattle.qs_data.proofs.lemmas.data.Levels.{data_of_struct, data_of_struct_variant}
use Rattle.qs_data.proofs.lemmas.failure.Failures.{below, below_missing, below_unread, fails_as, here_fails, here_rejects, if_err, in_full, in_list, in_newtype, in_null, in_places, in_tuple, in_value, passes, rejected_here, under_rejects}
use Rattle.qs_data.proofs.lemmas.failure.Fields.{at_shape, field_fails, fields_fail, has_entry, holds, in_keys, in_no_value, in_null_struct, in_variant, key_rejects, keys_fail, keys_rejected, lone_entry, lone_no_value, missing_fails, places_fail, twice_fails, unnamed_fails}
use Rattle.qs_data.proofs.lemmas.failure.Kinds.{text_entries, text_key}
use Rattle.qs_data.proofs.lemmas.read.Entries.{after_none, after_some, keys_bad, untested}
use Rattle.qs_data.proofs.lemmas.read.Variants.{named_is, enum_none, enum_some, text_as_map, under_bad, variant_kind}
use Rattle.qs_data.proofs.lemmas.read.Errors.{and_left, and_right, rejected}
use Rattle.qs_data.proofs.lemmas.read.ReadErrors.{custom, key_error, passed}
use Rattle.qs_data.proofs.lemmas.read.Items.{items_bad, item_first, due_bad, each_more, each_missing, each_unread, each_end, each_all}
use Rattle.qs_data.proofs.lemmas.read.Tuples.{parts_beyond, parts_missing, parts_more, parts_unread}
use Rattle.qs_data.proofs.lemmas.read.Numbers.{empty_text}
use Rattle.qs_data.proofs.lemmas.read.Pairs.{key_bad, value_bad, pairs_more, pairs_no_key, pairs_no_value, pairs_end, pairs_all, lone_no_key}
use Rattle.qs_data.proofs.lemmas.read.Steps.{before, before-front}
use Rattle.qs_data.proofs.lemmas.read.Unknown.{fails}
use Rattle.qs_data.proofs.lemmas.read.Fields.{found_bad, field_none, field_name, field_shape, field_optional, names_more, item_at, no_item_at, item_bad, place_some, places_more}
use Rattle.qs_data.proofs.read.+read.Goals as goal
use Rattle.qs_data.proofs.read.+read.Goals.{maps::read_pairs-else-loop-i-test, maps::read_pairs-then-loop-i-test+in_default, lists::read_each-else-loop-i-test, lists::read_each-then-loop-i-test+in-Ok-None}

pub by_shape::read_inline-returns-in-Option-clause-gives : goal.by_shape::read_inline-returns-in-Option-clause-gives
unfolding reads
by_shape::read_inline-returns-in-Option-clause-gives t c =
    let n = tree_of c.args.value.now in
    let shaped : shape_of c.args.shape.now ≡ Shape.option (shape_of c.in-Option.part.value) = ap shape_of c.in-Option.is ∙ search (rules, shape.the_lemmas) in
    let held = subst (λ x. GivesOrFails data_of (is_text n) c.read_option.result (read_option (reads c.args.reader.reject_duplicates (shape_of x)) n)) c.deref.ensures c.read_option.ensures.gives in
    subst (λ x. GivesOrFails data_of (is_text n) c.read_option.result (reads c.args.reader.reject_duplicates x n)) (sym shaped) held

pub by_shape::read_inline-returns-in-Option-clause-fails : goal.by_shape::read_inline-returns-in-Option-clause-fails
by_shape::read_inline-returns-in-Option-clause-fails t c =
    let n = tree_of c.args.value.now in
    let shaped : shape_of c.args.shape.now ≡ Shape.option (shape_of c.in-Option.part.value) = ap shape_of c.in-Option.is ∙ search (rules, shape.the_lemmas) in
    let held = subst (λ x. IfErr c.read_option.result (Fails c.args.reader.reject_duplicates (Shape.option (shape_of x)) n)) c.deref.ensures c.read_option.ensures.fails in
    subst (λ x. IfErr c.read_option.result (Fails c.args.reader.reject_duplicates x n)) (sym shaped) held

pub by_shape::struct_data-returns-clause-gives : goal.by_shape::struct_data-returns-clause-gives
unfolding reads
by_shape::struct_data-returns-clause-gives t c =
    let k = c.in_ok-read_struct in
    ap (λ r. option_map (λ ms. d.struct (d.members_of ms)) r) k.ensures.gives ∙ ap Some (sym (data_of_struct k.field-0))

pub by_shape::seq_data-returns-in_err-read_list-clause-fails : goal.by_shape::seq_data-returns-in_err-read_list-clause-fails
by_shape::seq_data-returns-in_err-read_list-clause-fails t c =
    passes (Fails c.args.reader.reject_duplicates (Shape.sequence (shape_of c.args.part.now)) (tree_of c.args.value.now)) c.from_residual.result c.in_err-read_list.field-0.0 c.from_residual.ensures.1 c.in_err-read_list.ensures.fails

pub by_shape::tuple_data-returns-in_err-read_tuple-clause-fails : goal.by_shape::tuple_data-returns-in_err-read_tuple-clause-fails
by_shape::tuple_data-returns-in_err-read_tuple-clause-fails t c =
    passes (Fails c.args.reader.reject_duplicates (Shape.tuple (shapes_in c.args.parts.now.items)) (tree_of c.args.value.now)) c.from_residual.result c.in_err-read_tuple.field-0.0 c.from_residual.ensures.1 c.in_err-read_tuple.ensures.fails

pub by_shape::map_data-returns-in_err-read_map-clause-fails : goal.by_shape::map_data-returns-in_err-read_map-clause-fails
by_shape::map_data-returns-in_err-read_map-clause-fails t c =
    passes (Fails c.args.reader.reject_duplicates (Shape.mapping (key_shape_of c.args.key_shape.now) (shape_of c.args.part.now)) (tree_of c.args.value.now)) c.from_residual.result c.in_err-read_map.field-0.0 c.from_residual.ensures.1 c.in_err-read_map.ensures.fails

pub by_shape::struct_data-returns-in_err-read_struct-clause-fails : goal.by_shape::struct_data-returns-in_err-read_struct-clause-fails
by_shape::struct_data-returns-in_err-read_struct-clause-fails t c =
    passes (Fails c.args.reader.reject_duplicates (Shape.struct (unknown_of c.args.unknown) (fields_in c.args.fields.now.items)) (tree_of c.args.value.now)) c.from_residual.result c.in_err-read_struct.field-0.0 c.from_residual.ensures.1 c.in_err-read_struct.ensures.fails

pub by_shape::newtype_data-returns-in_err-held-clause-fails : goal.by_shape::newtype_data-returns-in_err-held-clause-fails
by_shape::newtype_data-returns-in_err-held-clause-fails t c =
    let s = shape_of c.args.part.now in
    let n = tree_of c.args.value.now in
    let f = c.in_err-held.field-0.0 in
    passes (Fails c.args.reader.reject_duplicates (Shape.newtype s) n) c.from_residual.result f c.from_residual.ensures.1 (in_newtype c.args.reader.reject_duplicates s n f c.in_err-held.ensures.fails)

pub by_shape::read_full-returns-in_err-held-clause-fails : goal.by_shape::read_full-returns-in_err-held-clause-fails
by_shape::read_full-returns-in_err-held-clause-fails t c =
    let s = shape_of c.args.part.now in
    let n = tree_of c.args.value.now in
    let f = c.in_err-held.field-0.0 in
    passes (Fails c.args.reader.reject_duplicates (Shape.option s) n) c.from_residual.result f c.from_residual.ensures.1 (in_full c.args.reader.reject_duplicates s n f c.requires c.in_err-held.ensures.fails)

pub by_shape::read_option-returns-in_err-held-in-Null-clause-fails : goal.by_shape::read_option-returns-in_err-held-in-Null-clause-fails
by_shape::read_option-returns-in_err-held-in-Null-clause-fails t c =
    let s = shape_of c.args.part.now in
    let f = c.in_err-held-in-Null.field-0.0 in
    let inner : tree_of value.NoValue ≡ leaf NoValue = search (rules, value.the_lemmas) in
    let outer : tree_of c.args.value.now ≡ leaf Null = ap tree_of c.in-Null.is ∙ search (rules, value.the_lemmas) in
    subst (λ n. IfErr c.from_residual.result (Fails c.args.reader.reject_duplicates (Shape.option s) n)) (sym outer)
    (passes (Fails c.args.reader.reject_duplicates (Shape.option s) (leaf Null)) c.from_residual.result f c.from_residual.ensures.1 (in_null c.args.reader.reject_duplicates s f (subst (λ n. Fails c.args.reader.reject_duplicates s n f) inner c.in_err-held-in-Null.ensures.fails)))

pub by_shape::read_option-returns-in-Uninitialized-clause-fails : goal.by_shape::read_option-returns-in-Uninitialized-clause-fails
by_shape::read_option-returns-in-Uninitialized-clause-fails t c =
    let seen : tree_of c.args.value.now ≡ uninitialized = ap tree_of c.in-Uninitialized.is ∙ search (rules, value.the_lemmas) in
    subst (λ n. Fails c.args.reader.reject_duplicates (Shape.option (shape_of c.args.part.now)) n c.nothing.result) (sym seen) c.nothing.ensures.fails

pub lists::read_list-returns-in-Ok-clause-gives : goal.lists::read_list-returns-in-Ok-clause-gives
unfolding read_list
lists::read_list-returns-in-Ok-clause-gives t c =
    let n = tree_of c.args.value.now in
    let xs = items_view c.in-Ok.items in
    let r = reads c.args.reader.reject_duplicates (shape_of c.args.part.now) in
    let h : items n ≡ Some xs = c.in-Ok.ensures in
    fails_as (λ v. map data_of v.items) (are_text xs) (is_text n) c.read_each.result (read_each r xs) (read_list r n)
    c.read_each.ensures.gives (sym (ap (option_and_then (read_each r)) h)) (items_bad n xs h)

pub lists::read_list-returns-in-Ok-clause-fails : goal.lists::read_list-returns-in-Ok-clause-fails
lists::read_list-returns-in-Ok-clause-fails t c =
    let n = tree_of c.args.value.now in
    let s = shape_of c.args.part.now in
    if_err c.read_each.result c.read_each.ensures.fails (λ f w. in_list c.args.reader.reject_duplicates s n (items_view c.in-Ok.items) f c.in-Ok.ensures w)

pub lists::read_list-returns-in-Err-clause-gives : goal.lists::read_list-returns-in-Err-clause-gives
unfolding read_list
lists::read_list-returns-in-Err-clause-gives t c =
    let n = tree_of c.args.value.now in
    let s = shape_of c.args.part.now in
    let r = reads c.args.reader.reject_duplicates s in
    rejected true (is_text n) (error_in c.at_list.result) (items n) (read_list r n)
    (here_rejects true (Shape.sequence s) n c.in-Err.error c.at_list.result (items n) (c.at_list.ensures s) c.in-Err.ensures) (λ none. ap (option_and_then (read_each r)) none) (λ no. absurd (false≢true (sym no)))

pub lists::read_list-returns-in-Err-clause-fails : goal.lists::read_list-returns-in-Err-clause-fails
lists::read_list-returns-in-Err-clause-fails t c =
    let n = tree_of c.args.value.now in
    let s = shape_of c.args.part.now in
    rejected_here c.args.reader.reject_duplicates (Shape.sequence s) n true c.in-Err.error (items n) c.at_list.result (c.at_list.ensures s) c.in-Err.ensures (λ none. IsOwn.no_list none)

pub lists::read_each-returns-in-Err-clause-gives : goal.lists::read_each-returns-in-Err-clause-gives
lists::read_each-returns-in-Err-clause-gives t c =
    let l = c.loop-i in
    let s = shape_of c.args.part.now in
    let xs = items_view c.args.items in
    let r = reads c.args.reader.reject_duplicates s in
    let e = c.in-Err.error in
    let f = c.at_missing.result in
    let g = c.at_index.result in
    let due = first_item (drop l.i xs) in
    rejected true (are_text xs) (error_in g) due (read_each r xs)
    (under_rejects true (Int l.i) f g due c.at_index.ensures (here_rejects true s uninitialized e f due c.at_missing.ensures c.in-Err.ensures))
    (λ none. l.invariant ∙ each_missing r xs l.i (map data_of l.values.items) none) (λ no. absurd (false≢true (sym no)))

pub lists::read_each-returns-in-Err-clause-fails : goal.lists::read_each-returns-in-Err-clause-fails
lists::read_each-returns-in-Err-clause-fails t c =
    let l = c.loop-i in
    let s = shape_of c.args.part.now in
    let xs = items_view c.args.items in
    let e = c.in-Err.error in
    let f = c.at_missing.result in
    let g = c.at_index.result in
    let due = first_item (drop l.i xs) in
    below_unread c.args.reader.reject_duplicates (IsItem s xs) (Int l.i) s true e due f g c.at_missing.ensures c.at_index.ensures c.in-Err.ensures (λ none. IsItem.missing_item none)

pub lists::read_each-returns-in-Err-read_node-clause-gives : goal.lists::read_each-returns-in-Err-read_node-clause-gives
lists::read_each-returns-in-Err-read_node-clause-gives t c =
    let l = c.loop-i in
    let s = shape_of c.args.part.now in
    let xs = items_view c.args.items in
    let n = tree_of c.in-Ok-Some.item.now in
    let r = reads c.args.reader.reject_duplicates s in
    let f = c.in-Err-read_node.failure in
    let g = c.at_index-in-Err-read_node.result in
    let h : first_item (drop l.i xs) ≡ Some (Some n) = c.in-Ok-Some.ensures ∙ ap (λ o. Some (option_map (λ v. tree_of v.now) o)) c.in-Ok-Some.field-0-is in
    under_rejects (are_text xs) (Int l.i) f g (read_each r xs) c.at_index-in-Err-read_node.ensures
    (rejected (is_text n) (are_text xs) (error_in f) (r n) (read_each r xs) c.in-Err-read_node.ensures.gives (λ e. l.invariant ∙ each_unread r xs l.i (map data_of l.values.items) n h e) (due_bad l.i xs n h))

pub lists::read_each-returns-in-Err-read_node-clause-fails : goal.lists::read_each-returns-in-Err-read_node-clause-fails
lists::read_each-returns-in-Err-read_node-clause-fails t c =
    let l = c.loop-i in
    let s = shape_of c.args.part.now in
    let xs = items_view c.args.items in
    let n = tree_of c.in-Ok-Some.item.now in
    let f = c.in-Err-read_node.failure in
    let g = c.at_index-in-Err-read_node.result in
    let h : first_item (drop l.i xs) ≡ Some (Some n) = c.in-Ok-Some.ensures ∙ ap (λ o. Some (option_map (λ v. tree_of v.now) o)) c.in-Ok-Some.field-0-is in
    below c.args.reader.reject_duplicates (IsItem s xs) (Int l.i) s n f g c.at_index-in-Err-read_node.ensures c.in-Err-read_node.ensures.fails (IsItem.item h)

pub lists::read_each-loop-i-preserved : goal.lists::read_each-loop-i-preserved
lists::read_each-loop-i-preserved t c =
    let l = c.loop-i in
    let xs = items_view c.args.items in
    let n = tree_of c.in-Ok-Some.item.now in
    let r = reads c.args.reader.reject_duplicates (shape_of c.args.part.now) in
    let ws = map data_of l.values.items in
    let d = data_of c.in-Ok.«data» in
    let h : first_item (drop l.i xs) ≡ Some (Some n) = c.in-Ok-Some.ensures ∙ ap (λ o. Some (option_map (λ v. tree_of v.now) o)) c.in-Ok-Some.field-0-is in
    let pushed : map data_of c.push.new.self.items ≡ ws ++ d ∷ [] = grind (arith, common_steps) in
    l.invariant ∙ each_more r xs l.i ws n d h c.in-Ok.ensures.gives ∙ ap (λ ys. before ys (read_each r (drop (l.i + 1) xs))) (sym pushed)

pub lists::read_each-returns-clause-gives : goal.lists::read_each-returns-clause-gives
lists::read_each-returns-clause-gives t c =
    let l = c.loop-i in
    let xs = items_view c.args.items in
    let r = reads c.args.reader.reject_duplicates (shape_of c.args.part.now) in
    let ws = map data_of l.values.items in
    elim c.loop-i-test.branch [
      | lists::read_each-else-loop-i-test w ↦ l.invariant ∙ each_all r xs l.i ws (omega (arith, c.len-i-end.ensures, w.loop-i-test.false))
      | lists::read_each-then-loop-i-test+in-Ok-None w ↦
          let h : first_item (drop l.i xs) ≡ Some None = w.in-Ok-None.ensures ∙ ap (λ o. Some (option_map (λ v. tree_of v.now) o)) w.in-Ok-None.field-0-is in
          l.invariant ∙ each_end r xs l.i ws h
    ]

pub lists::read_tuple-returns-in-Ok-clause-gives : goal.lists::read_tuple-returns-in-Ok-clause-gives
lists::read_tuple-returns-in-Ok-clause-gives t c =
    let n = tree_of c.args.value.now in
    let xs = items_view c.in-Ok.items in
    let r = reads_tuple c.args.reader.reject_duplicates (shapes_in c.args.parts.now.items) in
    let h : items n ≡ Some xs = c.in-Ok.ensures in
    fails_as (λ v. map data_of v.items) (are_text xs) (is_text n) c.read_parts.result (r xs) (option_and_then r (items n))
    c.read_parts.ensures.gives (sym (ap (option_and_then r) h)) (items_bad n xs h)

pub lists::read_tuple-returns-in-Ok-clause-fails : goal.lists::read_tuple-returns-in-Ok-clause-fails
lists::read_tuple-returns-in-Ok-clause-fails t c =
    let n = tree_of c.args.value.now in
    let ss = shapes_in c.args.parts.now.items in
    if_err c.read_parts.result c.read_parts.ensures.fails (λ f w. in_tuple c.args.reader.reject_duplicates ss n (items_view c.in-Ok.items) f c.in-Ok.ensures w)

pub lists::read_tuple-returns-in-Err-clause-gives : goal.lists::read_tuple-returns-in-Err-clause-gives
lists::read_tuple-returns-in-Err-clause-gives t c =
    let n = tree_of c.args.value.now in
    let ss = shapes_in c.args.parts.now.items in
    let r = reads_tuple c.args.reader.reject_duplicates ss in
    rejected true (is_text n) (error_in c.at_tuple.result) (items n) (option_and_then r (items n))
    (here_rejects true (Shape.tuple ss) n c.in-Err.error c.at_tuple.result (items n) (c.at_tuple.ensures ss) c.in-Err.ensures) (λ none. ap (option_and_then r) none) (λ no. absurd (false≢true (sym no)))

pub lists::read_tuple-returns-in-Err-clause-fails : goal.lists::read_tuple-returns-in-Err-clause-fails
lists::read_tuple-returns-in-Err-clause-fails t c =
    let n = tree_of c.args.value.now in
    let ss = shapes_in c.args.parts.now.items in
    rejected_here c.args.reader.reject_duplicates (Shape.tuple ss) n true c.in-Err.error (items n) c.at_tuple.result (c.at_tuple.ensures ss) c.in-Err.ensures (λ none. IsOwn.no_tuple none)

pub lists::read_parts-returns-in-Ok-None-clause-gives : goal.lists::read_parts-returns-in-Ok-None-clause-gives
lists::read_parts-returns-in-Ok-None-clause-gives t c =
    let l = c.loop-i in
    let d = c.part-item.result in
    let ds = c.deref-part-items.result.now in
    let ss = shapes_in c.args.parts.now.items in
    let xs = items_view c.args.items in
    let rd = c.args.reader.reject_duplicates in
    let e = c.error-error.result in
    let f = c.at_missing.result in
    let g = c.at_index.result in
    let h : first_item (drop l.i xs) ≡ Some None = c.in-Ok-None.ensures ∙ ap (λ o. Some (option_map (λ v. tree_of v.now) o)) c.in-Ok-None.field-0-is in
    under_rejects (are_text xs) (Int l.i) f g (reads_tuple rd ss xs) c.at_index.ensures
    (here_rejects (are_text xs) (shape_of d) uninitialized e f (reads_tuple rd ss xs) c.at_missing.ensures
    (custom (are_text xs) e (reads_tuple rd ss xs) c.error-error.ensures (l.invariant ∙ parts_beyond rd ds l.i d xs (map data_of l.values.items) (omega arith) c.part-item.is h)))

pub lists::read_parts-returns-in-Ok-None-clause-fails : goal.lists::read_parts-returns-in-Ok-None-clause-fails
lists::read_parts-returns-in-Ok-None-clause-fails t c =
    let l = c.loop-i in
    let d = c.part-item.result in
    let ds = c.deref-part-items.result.now in
    let ss = shapes_in c.args.parts.now.items in
    let xs = items_view c.args.items in
    let rd = c.args.reader.reject_duplicates in
    let e = c.error-error.result in
    let f = c.at_missing.result in
    let g = c.at_index.result in
    let h : first_item (drop l.i xs) ≡ Some None = c.in-Ok-None.ensures ∙ ap (λ o. Some (option_map (λ v. tree_of v.now) o)) c.in-Ok-None.field-0-is in
    below_missing rd (IsTupleItem ss xs) (Int l.i) (shape_of d) e f g c.at_missing.ensures c.at_index.ensures (IsTupleItem.item_beyond (ap (λ ys. shape_at l.i (shapes_in ys)) (sym c.deref-part-items.ensures.value) ∙ at_shape ds l.i d (omega arith) c.part-item.is) h)

pub lists::read_parts-returns-in-Err-clause-gives : goal.lists::read_parts-returns-in-Err-clause-gives
lists::read_parts-returns-in-Err-clause-gives t c =
    let l = c.loop-i in
    let d = c.part-item.result in
    let ds = c.deref-part-items.result.now in
    let ss = shapes_in c.args.parts.now.items in
    let xs = items_view c.args.items in
    let rd = c.args.reader.reject_duplicates in
    let e = c.in-Err.error in
    let f = c.at_missing-in-Err.result in
    let g = c.at_index-in-Err.result in
    let due = first_item (drop l.i xs) in
    rejected true (are_text xs) (error_in g) due (reads_tuple rd ss xs)
    (under_rejects true (Int l.i) f g due c.at_index-in-Err.ensures (here_rejects true (shape_of d) uninitialized e f due c.at_missing-in-Err.ensures c.in-Err.ensures))
    (λ none. l.invariant ∙ parts_missing rd ds l.i d xs (map data_of l.values.items) (omega arith) c.part-item.is none) (λ no. absurd (false≢true (sym no)))

pub lists::read_parts-returns-in-Err-clause-fails : goal.lists::read_parts-returns-in-Err-clause-fails
lists::read_parts-returns-in-Err-clause-fails t c =
    let l = c.loop-i in
    let d = c.part-item.result in
    let ds = c.deref-part-items.result.now in
    let ss = shapes_in c.args.parts.now.items in
    let xs = items_view c.args.items in
    let rd = c.args.reader.reject_duplicates in
    let e = c.in-Err.error in
    let f = c.at_missing-in-Err.result in
    let g = c.at_index-in-Err.result in
    let due = first_item (drop l.i xs) in
    below_unread rd (IsTupleItem ss xs) (Int l.i) (shape_of d) true e due f g c.at_missing-in-Err.ensures c.at_index-in-Err.ensures c.in-Err.ensures (λ none. IsTupleItem.missing_item (ap (λ ys. shape_at l.i (shapes_in ys)) (sym c.deref-part-items.ensures.value) ∙ at_shape ds l.i d (omega arith) c.part-item.is) none)

pub lists::read_parts-returns-in-Err-read_node-clause-gives : goal.lists::read_parts-returns-in-Err-read_node-clause-gives
lists::read_parts-returns-in-Err-read_node-clause-gives t c =
    let l = c.loop-i in
    let d = c.part-item.result in
    let ds = c.deref-part-items.result.now in
    let ss = shapes_in c.args.parts.now.items in
    let xs = items_view c.args.items in
    let rd = c.args.reader.reject_duplicates in
    let n = tree_of c.in-Ok-Some.item.now in
    let f = c.in-Err-read_node.failure in
    let g = c.at_index-in-Err-read_node.result in
    let h : first_item (drop l.i xs) ≡ Some (Some n) = c.in-Ok-Some.ensures ∙ ap (λ o. Some (option_map (λ v. tree_of v.now) o)) c.in-Ok-Some.field-0-is in
    under_rejects (are_text xs) (Int l.i) f g (reads_tuple rd ss xs) c.at_index-in-Err-read_node.ensures
    (rejected (is_text n) (are_text xs) (error_in f) (reads rd (shape_of d) n) (reads_tuple rd ss xs) c.in-Err-read_node.ensures.gives
    (λ e. l.invariant ∙ parts_unread rd ds l.i d xs (map data_of l.values.items) (omega arith) c.part-item.is n h e) (due_bad l.i xs n h))

pub lists::read_parts-returns-in-Err-read_node-clause-fails : goal.lists::read_parts-returns-in-Err-read_node-clause-fails
lists::read_parts-returns-in-Err-read_node-clause-fails t c =
    let l = c.loop-i in
    let d = c.part-item.result in
    let ds = c.deref-part-items.result.now in
    let ss = shapes_in c.args.parts.now.items in
    let xs = items_view c.args.items in
    let rd = c.args.reader.reject_duplicates in
    let n = tree_of c.in-Ok-Some.item.now in
    let f = c.in-Err-read_node.failure in
    let g = c.at_index-in-Err-read_node.result in
    let h : first_item (drop l.i xs) ≡ Some (Some n) = c.in-Ok-Some.ensures ∙ ap (λ o. Some (option_map (λ v. tree_of v.now) o)) c.in-Ok-Some.field-0-is in
    below rd (IsTupleItem ss xs) (Int l.i) (shape_of d) n f g c.at_index-in-Err-read_node.ensures c.in-Err-read_node.ensures.fails (IsTupleItem.item (ap (λ ys. shape_at l.i (shapes_in ys)) (sym c.deref-part-items.ensures.value) ∙ at_shape ds l.i d (omega arith) c.part-item.is) h)

pub lists::read_parts-loop-i-preserved : goal.lists::read_parts-loop-i-preserved
lists::read_parts-loop-i-preserved t c =
    let l = c.loop-i in
    let s = c.part-item.result in
    let ss = c.deref-part-items.result.now in
    let xs = items_view c.args.items in
    let n = tree_of c.in-Ok-Some.item.now in
    let ws = map data_of l.values.items in
    let d = data_of c.in-Ok.«data» in
    let h : first_item (drop l.i xs) ≡ Some (Some n) = c.in-Ok-Some.ensures ∙ ap (λ o. Some (option_map (λ v. tree_of v.now) o)) c.in-Ok-Some.field-0-is in
    let pushed : map data_of c.push.new.self.items ≡ ws ++ d ∷ [] = grind (arith, common_steps) in
    l.invariant ∙ parts_more c.args.reader.reject_duplicates ss l.i s xs ws (omega arith) c.part-item.is n d h c.in-Ok.ensures.gives
    ∙ ap (λ ys. before ys (reads_tuple c.args.reader.reject_duplicates (shapes_in (drop (l.i + 1) ss)) (drop (l.i + 1) xs))) (sym pushed)

pub maps::read_map-returns-in-Map-clause-fails : goal.maps::read_map-returns-in-Map-clause-fails
maps::read_map-returns-in-Map-clause-fails t c =
    let k = key_shape_of c.args.key_shape.now in
    let s = shape_of c.args.part.now in
    let seen : tree_of c.args.value.now ≡ mapping (entries_of_map c.in-Map.entries) = ap tree_of c.in-Map.is ∙ search (rules, value.the_lemmas) in
    subst (λ n. IfErr c.read_pairs.result (Fails c.args.reader.reject_duplicates (Shape.mapping k s) n)) (sym seen) c.read_pairs.ensures.fails

pub maps::read_map-returns-in-Sequence-clause-fails : goal.maps::read_map-returns-in-Sequence-clause-fails
maps::read_map-returns-in-Sequence-clause-fails t c =
    c.no_map.ensures.fails (key_shape_of c.args.key_shape.now) (shape_of c.args.part.now)

pub maps::read_map-returns-in-Uninitialized-clause-fails : goal.maps::read_map-returns-in-Uninitialized-clause-fails
maps::read_map-returns-in-Uninitialized-clause-fails t c =
    c.no_map-in-Uninitialized.ensures.fails (key_shape_of c.args.key_shape.now) (shape_of c.args.part.now)

pub maps::read_pairs-returns-in-Err-clause-gives : goal.maps::read_pairs-returns-in-Err-clause-gives
maps::read_pairs-returns-in-Err-clause-gives t c =
    let l = c.loop-i in
    let es = entries_of_map c.args.entries.now in
    let k = key_shape_of c.args.key_shape.now in
    let s = shape_of c.args.part.now in
    let r = reads c.args.reader.reject_duplicates s in
    let x : ParsedSegment × Tree = (parsed_segment_of_key c.in-Some.key.now, tree_of c.in-Some.value.now) in
    let name = segment_text x.0.segment in
    let here = sym c.in-Some.ensures.value in
    let e = c.in-Err.error in
    let f = c.at_keys.result in
    rejected (is_utf8 name) (entries_are_text es) (error_in f) (key_data k name) (read_pairs k r es)
    (here_rejects (is_utf8 name) (Shape.mapping k s) (mapping es) e f (key_data k name) (c.at_keys.ensures s) c.in-Err.ensures)
    (λ e. l.invariant ∙ pairs_no_key k r es l.i (map pair_of l.pairs.items) x here e) (key_bad l.i es x here)

pub maps::read_pairs-returns-in-Err-clause-fails : goal.maps::read_pairs-returns-in-Err-clause-fails
maps::read_pairs-returns-in-Err-clause-fails t c =
    let l = c.loop-i in
    let es = entries_of_map c.args.entries.now in
    let k = key_shape_of c.args.key_shape.now in
    let s = shape_of c.args.part.now in
    let x : ParsedSegment × Tree = (parsed_segment_of_key c.in-Some.key.now, tree_of c.in-Some.value.now) in
    let name = segment_text x.0.segment in
    let here = sym c.in-Some.ensures.value in
    let e = c.in-Err.error in
    let f = c.at_keys.result in
    rejected_here c.args.reader.reject_duplicates (Shape.mapping k s) (mapping es) (is_utf8 name) e (key_data k name) f (c.at_keys.ensures s) c.in-Err.ensures
    (λ none. IsOwn.unread_key refl (has_entry l.i es x here) none)

pub maps::read_pairs-returns-in-Err-read_node-clause-gives : goal.maps::read_pairs-returns-in-Err-read_node-clause-gives
maps::read_pairs-returns-in-Err-read_node-clause-gives t c =
    let l = c.loop-i in
    let es = entries_of_map c.args.entries.now in
    let k = key_shape_of c.args.key_shape.now in
    let s = shape_of c.args.part.now in
    let r = reads c.args.reader.reject_duplicates s in
    let x : ParsedSegment × Tree = (parsed_segment_of_key c.in-Some.key.now, tree_of c.in-Some.value.now) in
    let here = sym c.in-Some.ensures.value in
    let f = c.in-Err-read_node.failure in
    let g = c.at_key.result in
    under_rejects (entries_are_text es) x.0.segment f g (read_pairs k r es) c.at_key.ensures
    (rejected (is_text x.1) (entries_are_text es) (error_in f) (r x.1) (read_pairs k r es) c.in-Err-read_node.ensures.gives
    (λ e. l.invariant ∙ pairs_no_value k r es l.i (map pair_of l.pairs.items) x here e) (value_bad l.i es x here))

pub maps::read_pairs-returns-in-Err-read_node-clause-fails : goal.maps::read_pairs-returns-in-Err-read_node-clause-fails
maps::read_pairs-returns-in-Err-read_node-clause-fails t c =
    let l = c.loop-i in
    let es = entries_of_map c.args.entries.now in
    let k = key_shape_of c.args.key_shape.now in
    let s = shape_of c.args.part.now in
    let x : ParsedSegment × Tree = (parsed_segment_of_key c.in-Some.key.now, tree_of c.in-Some.value.now) in
    let here = sym c.in-Some.ensures.value in
    let f = c.in-Err-read_node.failure in
    let g = c.at_key.result in
    in_value c.args.reader.reject_duplicates k s (mapping es) es g refl (below c.args.reader.reject_duplicates (IsValue s es) x.0.segment s x.1 f g c.at_key.ensures c.in-Err-read_node.ensures.fails (IsValue.value (has_entry l.i es x here)))

pub maps::read_pairs-loop-i-preserved : goal.maps::read_pairs-loop-i-preserved
maps::read_pairs-loop-i-preserved t c =
    let l = c.loop-i in
    let es = entries_of_map c.args.entries.now in
    let k = key_shape_of c.args.key_shape.now in
    let r = reads c.args.reader.reject_duplicates (shape_of c.args.part.now) in
    let x : ParsedSegment × Tree = (parsed_segment_of_key c.in-Some.key.now, tree_of c.in-Some.value.now) in
    let ws = map pair_of l.pairs.items in
    let a = data_of c.in-Ok.«data» in
    let d = data_of c.in-Ok-read_node.«data» in
    let pushed : map pair_of c.push.new.self.items ≡ ws ++ (a, d) ∷ [] = grind (arith, common_steps) in
    l.invariant ∙ pairs_more k r es l.i ws x (sym c.in-Some.ensures.value) a d c.in-Ok.ensures c.in-Ok-read_node.ensures.gives
    ∙ ap (λ ys. before ys (read_pairs k r (entries_after (l.i + 1) es))) (sym pushed)

pub maps::read_pairs-returns-clause-gives : goal.maps::read_pairs-returns-clause-gives
maps::read_pairs-returns-clause-gives t c =
    let l = c.loop-i in
    let es = entries_of_map c.args.entries.now in
    let k = key_shape_of c.args.key_shape.now in
    let r = reads c.args.reader.reject_duplicates (shape_of c.args.part.now) in
    let ws = map pair_of l.pairs.items in
    elim c.loop-i-test.branch [
      | maps::read_pairs-else-loop-i-test w ↦ l.invariant ∙ pairs_all k r es l.i ws (omega (arith, c.len-i-end.ensures, w.loop-i-test.false))
      | maps::read_pairs-then-loop-i-test+in_default w ↦ l.invariant ∙ pairs_end k r es l.i ws (sym w.in_default.ensures.value)
    ]

pub maps::read_under_empty-returns-in-Err-clause-gives : goal.maps::read_under_empty-returns-in-Err-clause-gives
maps::read_under_empty-returns-in-Err-clause-gives t c =
    let n = tree_of c.args.value.now in
    let k = key_shape_of c.args.key_shape.now in
    let s = shape_of c.args.part.now in
    let r = reads c.args.reader.reject_duplicates s in
    let m = Shape.mapping k s in
    let e = c.in-Err.error in
    let f = c.at_map.result in
    let here = c.at_map.ensures k s (text_key m n c.requires) in
    rejected (is_utf8 []) (is_text n) (error_in f) (key_data k []) (read_pairs k r (under_empty n)) (here_rejects (is_utf8 []) m n e f (key_data k []) here c.in-Err.ensures)
    (lone_no_key k r n) (λ f. absurd (false≢true (sym f ∙ empty_text)))

pub maps::read_under_empty-returns-in-Err-clause-fails : goal.maps::read_under_empty-returns-in-Err-clause-fails
maps::read_under_empty-returns-in-Err-clause-fails t c =
    let n = tree_of c.args.value.now in
    let k = key_shape_of c.args.key_shape.now in
    let s = shape_of c.args.part.now in
    let m = Shape.mapping k s in
    let e = c.in-Err.error in
    let f = c.at_map.result in
    let here = c.at_map.ensures k s (text_key m n c.requires) in
    rejected_here c.args.reader.reject_duplicates m n (is_utf8 []) e (key_data k []) f here c.in-Err.ensures (λ none. IsOwn.unread_key (text_entries n c.requires) (lone_entry n) none)

pub maps::read_under_empty-returns-in-Err-read_node-clause-gives : goal.maps::read_under_empty-returns-in-Err-read_node-clause-gives
maps::read_under_empty-returns-in-Err-read_node-clause-gives t c =
    let n = tree_of c.args.value.now in
    let k = key_shape_of c.args.key_shape.now in
    let s = shape_of c.args.part.now in
    let r = reads c.args.reader.reject_duplicates s in
    let f = c.in-Err-read_node.failure in
    let g = c.at_name.result in
    under_rejects (is_text n) (Str []) f g (read_pairs k r (under_empty n)) c.at_name.ensures
    (rejected (is_text n) (is_text n) (error_in f) (r n) (read_pairs k r (under_empty n)) c.in-Err-read_node.ensures.gives (λ e. lone_no_value k r n e) (λ x. x))

pub maps::read_under_empty-returns-in-Err-read_node-clause-fails : goal.maps::read_under_empty-returns-in-Err-read_node-clause-fails
maps::read_under_empty-returns-in-Err-read_node-clause-fails t c =
    let n = tree_of c.args.value.now in
    let k = key_shape_of c.args.key_shape.now in
    let s = shape_of c.args.part.now in
    let f = c.in-Err-read_node.failure in
    let g = c.at_name.result in
    in_value c.args.reader.reject_duplicates k s n (under_empty n) g (text_entries n c.requires)
    (below c.args.reader.reject_duplicates (IsValue s (under_empty n)) (Str []) s n f g c.at_name.ensures c.in-Err-read_node.ensures.fails (IsValue.value (lone_entry n)))

pub fields::read_struct-returns-in-NoValue-clause-fails : goal.fields::read_struct-returns-in-NoValue-clause-fails
fields::read_struct-returns-in-NoValue-clause-fails t c =
    let rd = c.args.reader.reject_duplicates in
    let u = unknown_of c.args.unknown in
    let fs = fields_in c.args.fields.now.items in
    let seen : tree_of c.args.value.now ≡ leaf NoValue = ap tree_of c.in-NoValue.is ∙ search (rules, value.the_lemmas) in
    subst (λ n. IfErr c.read_entries.result (Fails rd (Shape.struct u fs) n)) (sym seen) (if_err c.read_entries.result c.read_entries.ensures.fails (λ f w. in_no_value rd u fs f w))

pub fields::read_struct-returns-in-Null-clause-fails : goal.fields::read_struct-returns-in-Null-clause-fails
fields::read_struct-returns-in-Null-clause-fails t c =
    let rd = c.args.reader.reject_duplicates in
    let u = unknown_of c.args.unknown in
    let fs = fields_in c.args.fields.now.items in
    let seen : tree_of c.args.value.now ≡ leaf Null = ap tree_of c.in-Null.is ∙ search (rules, value.the_lemmas) in
    let r = c.read_entries-in-Null.result in
    subst (λ n. IfErr r (Fails rd (Shape.struct u fs) n)) (sym seen) (if_err r c.read_entries-in-Null.ensures.fails (λ f w. in_null_struct rd u fs f w))

pub fields::read_struct-returns-in-Map-clause-fails : goal.fields::read_struct-returns-in-Map-clause-fails
fields::read_struct-returns-in-Map-clause-fails t c =
    let rd = c.args.reader.reject_duplicates in
    let u = unknown_of c.args.unknown in
    let fs = fields_in c.args.fields.now.items in
    let seen : tree_of c.args.value.now ≡ mapping (entries_of_map c.in-Map.map) = ap tree_of c.in-Map.is ∙ search (rules, value.the_lemmas) in
    let r = c.read_entries-in-Map.result in
    subst (λ n. IfErr r (Fails rd (Shape.struct u fs) n)) (sym seen) (if_err r c.read_entries-in-Map.ensures.fails (λ f w. in_keys rd u fs (entries_of_map c.in-Map.map) f w))

pub fields::read_struct-returns-in-Sequence-clause-fails : goal.fields::read_struct-returns-in-Sequence-clause-fails
fields::read_struct-returns-in-Sequence-clause-fails t c =
    let rd = c.args.reader.reject_duplicates in
    let u = unknown_of c.args.unknown in
    let fs = fields_in c.args.fields.now.items in
    let seen : tree_of c.args.value.now ≡ sequence (items_from (map tree_of c.in-Sequence.items.items)) = ap tree_of c.in-Sequence.is ∙ search (rules, value.the_lemmas) in
    let r = c.read_places.result in
    let ts = c.deref.result.now in
    subst (λ n. IfErr r (Fails rd (Shape.struct u fs) n)) (sym seen)
    (subst (λ ys. IfErr r (Fails rd (Shape.struct u fs) (sequence (items_from (map tree_of ys))))) c.deref.ensures.value (if_err r c.read_places.ensures.fails (λ f w. in_places rd u fs (items_from (map tree_of ts)) f w)))

pub fields::read_struct-returns-in-String-clause-fails : goal.fields::read_struct-returns-in-String-clause-fails
fields::read_struct-returns-in-String-clause-fails t c =
    c.no_fields.ensures.fails (unknown_of c.args.unknown) (fields_in c.args.fields.now.items)

pub fields::read_struct-returns-in-Uninitialized-clause-fails : goal.fields::read_struct-returns-in-Uninitialized-clause-fails
fields::read_struct-returns-in-Uninitialized-clause-fails t c =
    c.no_fields-in-Uninitialized.ensures.fails (unknown_of c.args.unknown) (fields_in c.args.fields.now.items)

pub fields::read_entries-returns-in_err-members-clause-fails : goal.fields::read_entries-returns-in_err-members-clause-fails
fields::read_entries-returns-in_err-members-clause-fails t c =
    let rd = c.args.reader.reject_duplicates in
    let u = unknown_of c.args.unknown in
    let fs = fields_in c.args.fields.now.items in
    let es = entries_view c.args.entries in
    passes (FailsFields rd u fs es) c.from_residual.result c.in_err-members.field-0.0 c.from_residual.ensures.1 c.in_err-members.ensures.fails

pub fields::read_entries-returns-in-Err-clause-gives : goal.fields::read_entries-returns-in-Err-clause-gives
fields::read_entries-returns-in-Err-clause-gives t c =
    let rd = c.args.reader.reject_duplicates in
    let u = unknown_of c.args.unknown in
    let fs = fields_in c.args.fields.now.items in
    let es = entries_view c.args.entries in
    let test = keys_are_names fs es || are_ignored u in
    let e = c.in-Err.error in
    let f = c.at_fields.result in
    rejected (keys_are_text es) (entries_are_text es) (error_in f) (when test) _ (here_rejects (keys_are_text es) (Shape.struct u fs) (mapping es) e f (when test) c.at_fields.ensures c.in-Err.ensures)
    (λ none. untested (keys_are_allowed u fs es) (reads_names rd fs es) (and_right (keys_are_text es) test (fails test none))) (keys_bad es)

pub fields::read_entries-returns-in-Err-clause-fails : goal.fields::read_entries-returns-in-Err-clause-fails
fields::read_entries-returns-in-Err-clause-fails t c =
    let rd = c.args.reader.reject_duplicates in
    let u = unknown_of c.args.unknown in
    let fs = fields_in c.args.fields.now.items in
    let es = entries_view c.args.entries in
    let test = keys_are_names fs es || are_ignored u in
    let e = c.in-Err.error in
    let f = c.at_fields.result in
    keys_rejected rd u fs es (keys_are_text es) e (when test) f c.at_fields.ensures c.in-Err.ensures (λ none. and_right (keys_are_text es) test (fails test none))

pub fields::read_entries-returns-in-Err-test_keys-clause-gives : goal.fields::read_entries-returns-in-Err-test_keys-clause-gives
fields::read_entries-returns-in-Err-test_keys-clause-gives t c =
    let rd = c.args.reader.reject_duplicates in
    let u = unknown_of c.args.unknown in
    let fs = fields_in c.args.fields.now.items in
    let es = entries_view c.args.entries in
    let test = keys_are_names fs es || are_ignored u in
    let bad : keys_are_text es ≡ false = c.in-Err-test_keys.ensures.text in
    let not : keys_are_allowed u fs es ≡ false = and_left (keys_are_text es) test bad in
    let e = c.error-error.result in
    let f = c.at_fields-in-Err-test_keys.result in
    let none = untested (keys_are_allowed u fs es) (reads_names rd fs es) not in
    let broken = c.error-error.ensures.0 in
    here_rejects (entries_are_text es) (Shape.struct u fs) (mapping es) e f _ c.at_fields-in-Err-test_keys.ensures
    (key_error (entries_are_text es) c.in-Err-test_keys.key.text.now broken e _ c.error-error.ensures.2
    (passed (entries_are_text es) (Utf8 c.in-Err-test_keys.key.cause) broken _ c.error-error.ensures.1 (none, keys_bad es bad)))

pub fields::read_entries-returns-in-Err-test_keys-clause-fails : goal.fields::read_entries-returns-in-Err-test_keys-clause-fails
fields::read_entries-returns-in-Err-test_keys-clause-fails t c =
    let rd = c.args.reader.reject_duplicates in
    let u = unknown_of c.args.unknown in
    let fs = fields_in c.args.fields.now.items in
    let es = entries_view c.args.entries in
    let test = keys_are_names fs es || are_ignored u in
    let bad : keys_are_text es ≡ false = c.in-Err-test_keys.ensures.text in
    let not : keys_are_allowed u fs es ≡ false = and_left (keys_are_text es) test bad in
    let e = c.error-error.result in
    let f = c.at_fields-in-Err-test_keys.result in
    keys_fail rd u fs es e f c.at_fields-in-Err-test_keys.ensures not

pub fields::read_field-returns-in-Missing-clause-gives : goal.fields::read_field-returns-in-Missing-clause-gives
fields::read_field-returns-in-Missing-clause-gives t c =
    let rd = c.args.reader.reject_duplicates in
    let d = c.args.field.now in
    let f = field_of d in
    let es = entries_view c.args.entries in
    let read = read_field f.2 (is_option_shape f.1) (reads rd f.1) in
    let none : found f.0 es ≡ [] = ap (λ name. found name es) (field_name d ∙ sym c.deref.ensures) ∙ c.in-Missing.ensures in
    fails_as (option_map data_of) true (entries_are_text es) c.missing_field.result (read []) (read (found f.0 es)) c.missing_field.ensures.gives (sym (ap read none)) (λ no. absurd (false≢true (sym no)))

pub fields::read_field-returns-in-Missing-clause-fails : goal.fields::read_field-returns-in-Missing-clause-fails
fields::read_field-returns-in-Missing-clause-fails t c =
    let rd = c.args.reader.reject_duplicates in
    let d = c.args.field.now in
    let f = field_of d in
    let es = entries_view c.args.entries in
    let u = unknown_of c.args.unknown in
    let fs = fields_in c.args.fields.now.items in
    let none : found f.0 es ≡ [] = ap (λ name. found name es) (field_name d ∙ sym c.deref.ensures) ∙ c.in-Missing.ensures in
    if_err c.missing_field.result c.missing_field.ensures.fails (λ g w. missing_fails rd u fs f.0 f.1 f.2 es g none w)

pub fields::read_field-returns-in-Ok-clause-gives : goal.fields::read_field-returns-in-Ok-clause-gives
fields::read_field-returns-in-Ok-clause-gives t c =
    let rd = c.args.reader.reject_duplicates in
    let d = c.args.field.now in
    let f = field_of d in
    let es = entries_view c.args.entries in
    let n = tree_of c.in-One.value.now in
    let one : found f.0 es ≡ n ∷ [] = ap (λ name. found name es) (field_name d ∙ sym c.deref.ensures) ∙ c.in-One.ensures in
    ap (read_field f.2 (is_option_shape f.1) (reads rd f.1)) one ∙ ap (λ s. option_map Some (reads rd s n)) (field_shape d) ∙ ap (option_map Some) c.in-Ok.ensures.gives

pub fields::read_field-returns-in-Err-clause-gives : goal.fields::read_field-returns-in-Err-clause-gives
fields::read_field-returns-in-Err-clause-gives t c =
    let rd = c.args.reader.reject_duplicates in
    let d = c.args.field.now in
    let f = field_of d in
    let es = entries_view c.args.entries in
    let n = tree_of c.in-One.value.now in
    let one : found f.0 es ≡ n ∷ [] = ap (λ name. found name es) (field_name d ∙ sym c.deref.ensures) ∙ c.in-One.ensures in
    let r = reads rd (shape_of (out-Field d).shape) in
    let h = c.in-Err.failure in
    let g = c.at_name.result in
    let read = read_field f.2 (is_option_shape f.1) r (found f.0 es) in
    let given : Rejects (entries_are_text es) (error_in g) read = under_rejects (entries_are_text es) (Str c.deref-in-Err.result.now) h g read c.at_name.ensures
    (rejected (is_text n) (entries_are_text es) (error_in h) (r n) read c.in-Err.ensures.gives (field_none f.2 (is_option_shape f.1) r (found f.0 es) n one) (found_bad f.0 es n [] one)) in
    subst (λ s. Rejects (entries_are_text es) (error_in g) (read_field f.2 (is_option_shape f.1) (reads rd s) (found f.0 es))) (sym (field_shape d)) given

pub fields::read_field-returns-in-Err-clause-fails : goal.fields::read_field-returns-in-Err-clause-fails
fields::read_field-returns-in-Err-clause-fails t c =
    let rd = c.args.reader.reject_duplicates in
    let d = c.args.field.now in
    let f = field_of d in
    let es = entries_view c.args.entries in
    let u = unknown_of c.args.unknown in
    let fs = fields_in c.args.fields.now.items in
    let n = tree_of c.in-One.value.now in
    let one : found f.0 es ≡ n ∷ [] = ap (λ name. found name es) (field_name d ∙ sym c.deref.ensures) ∙ c.in-One.ensures in
    let h = c.in-Err.failure in
    let g = c.at_name.result in
    let step = subst (λ x. IsUnder (Str x) h g) (c.deref-in-Err.ensures ∙ sym (field_name d)) c.at_name.ensures in
    let w = subst (λ s. Fails rd s n h) (sym (field_shape d)) c.in-Err.ensures.fails in
    field_fails rd u fs f.0 f.1 f.2 es g (below rd (IsNamed f.0 f.1 f.2 es) (Str f.0) f.1 n h g step w (IsNamed.field one))

pub fields::read_field-returns-in-Several-clause-gives : goal.fields::read_field-returns-in-Several-clause-gives
fields::read_field-returns-in-Several-clause-gives t c =
    let rd = c.args.reader.reject_duplicates in
    let d = c.args.field.now in
    let f = field_of d in
    let es = entries_view c.args.entries in
    let u = unknown_of c.args.unknown in
    let fs = fields_in c.args.fields.now.items in
    let two = ap (λ name. found name es) (field_name d ∙ sym c.deref.ensures) ∙ c.in-Several.ensures.3 in
    let e = c.error-error.result in
    let g = c.at_fields.result in
    let t = entries_are_text es in
    here_rejects t (Shape.struct u fs) (mapping es) e g _ c.at_fields.ensures (custom t e _ c.error-error.ensures (ap (read_field f.2 (is_option_shape f.1) (reads rd f.1)) two))

pub fields::read_field-returns-in-Several-clause-fails : goal.fields::read_field-returns-in-Several-clause-fails
fields::read_field-returns-in-Several-clause-fails t c =
    let rd = c.args.reader.reject_duplicates in
    let d = c.args.field.now in
    let f = field_of d in
    let es = entries_view c.args.entries in
    let u = unknown_of c.args.unknown in
    let fs = fields_in c.args.fields.now.items in
    let two = ap (λ name. found name es) (field_name d ∙ sym c.deref.ensures) ∙ c.in-Several.ensures.3 in
    let e = c.error-error.result in
    let g = c.at_fields.result in
    twice_fails rd u fs f.0 f.1 f.2 es e g (record { one = c.in-Several.ensures.0; other = c.in-Several.ensures.1; rest = c.in-Several.ensures.2; is = two }) c.at_fields.ensures

pub fields::read_names-returns-in_err-value-clause-fails : goal.fields::read_names-returns-in_err-value-clause-fails
fields::read_names-returns-in_err-value-clause-fails t c =
    let rd = c.args.reader.reject_duplicates in
    let u = unknown_of c.args.unknown in
    let fs = fields_in c.args.fields.now.items in
    let es = entries_view c.args.entries in
    let l = c.loop-field in
    let ds = c.deref-field-items.result.now in
    let f = c.in_err-value.field-0.0 in
    passes (FailsFields rd u fs es) c.from_residual-in_err-value.result f c.from_residual-in_err-value.ensures.1
    (fields_fail rd u ds l.field-index c.field-item.result fs es f (omega arith) c.field-item.is (sym (ap fields_in c.deref-field-items.ensures.value)) c.in_err-value.ensures.fails)

pub fields::read_names-loop-field-preserved : goal.fields::read_names-loop-field-preserved
fields::read_names-loop-field-preserved t c =
    let l = c.loop-field in
    let d = c.field-item.result in
    let fs = c.deref-field-items.result.now in
    let es = entries_view c.args.entries in
    let ws = map (named data_of) l.members.items in
    let x = c.in-Some.value in
    let m = c.in_ok-name.name in
    let rest = reads_names c.args.reader.reject_duplicates (fields_in (drop (l.field-index + 1) fs)) es in
    let got = c.in_ok-value.ensures.gives ∙ ap (λ o. Some (option_map data_of o)) c.in-Some.is in
    let turn = names_more c.args.reader.reject_duplicates fs l.field-index d es ws (omega arith) c.field-item.is (Some (data_of x)) got in
    let copied : string_bytes m ≡ string_bytes (out-Field d).name = c.in_ok-name.ensures.cases in
    let name : (field_of d).0 ≡ string_bytes m = field_name d ∙ sym copied in
    let pushed : map (named data_of) c.push.new.self.items ≡ ws ++ (string_bytes m, data_of x) ∷ [] = grind (arith, common_steps) in
    l.invariant ∙ turn ∙ before-front ws ((field_of d).0, data_of x) rest
    ∙ ap (λ b. before (ws ++ (b, data_of x) ∷ []) rest) name ∙ ap (λ ys. before ys rest) (sym pushed)

pub fields::read_place-returns-in-Ok-clause-gives : goal.fields::read_place-returns-in-Ok-clause-gives
fields::read_place-returns-in-Ok-clause-gives t c =
    let rd = c.args.reader.reject_duplicates in
    let d = c.args.field.now in
    let f = field_of d in
    let ts = c.args.items.now in
    let i = c.args.place in
    let xs = items_from (map tree_of (drop i ts)) in
    let n = c.in-Some.item.now in
    let look = c.in-Some.ensures.lookup in
    let r = reads rd (shape_of (out-Field d).shape) in
    let here = item_at ts i n look.3.0 look.1 in
    ap (λ s. read_place f.2 (reads rd s) xs) (field_shape d) ∙ place_some f.2 r xs _ (tree_of n) here ∙ ap (option_map Some) c.in-Ok.ensures.gives

pub fields::read_place-returns-in-Err-clause-gives : goal.fields::read_place-returns-in-Err-clause-gives
fields::read_place-returns-in-Err-clause-gives t c =
    let rd = c.args.reader.reject_duplicates in
    let d = c.args.field.now in
    let f = field_of d in
    let ts = c.args.items.now in
    let all = items_from (map tree_of ts) in
    let i = c.args.place in
    let xs = items_from (map tree_of (drop i ts)) in
    let n = c.in-Some.item.now in
    let look = c.in-Some.ensures.lookup in
    let r = reads rd (shape_of (out-Field d).shape) in
    let here = item_at ts i n look.3.0 look.1 in
    let h = c.in-Err.failure in
    let g = c.at_index.result in
    let given : Rejects (items_are_text all) (error_in g) (read_place f.2 r xs) = under_rejects (items_are_text all) (Int i) h g (read_place f.2 r xs) c.at_index.ensures
    (rejected (is_text (tree_of n)) (items_are_text all) (error_in h) (r (tree_of n)) (read_place f.2 r xs) c.in-Err.ensures.gives (λ e. place_some f.2 r xs _ (tree_of n) here ∙ ap (option_map Some) e) (item_bad ts i n look.3.0 look.1)) in
    subst (λ s. Rejects (items_are_text all) (error_in g) (read_place f.2 (reads rd s) xs)) (sym (field_shape d)) given

pub fields::read_place-returns-in-Err-clause-fails : goal.fields::read_place-returns-in-Err-clause-fails
fields::read_place-returns-in-Err-clause-fails t c =
    let rd = c.args.reader.reject_duplicates in
    let d = c.args.field.now in
    let f = field_of d in
    let ts = c.args.items.now in
    let all = items_from (map tree_of ts) in
    let i = c.args.place in
    let n = c.in-Some.item.now in
    let look = c.in-Some.ensures.lookup in
    let h = c.in-Err.failure in
    let g = c.at_index.result in
    let w = subst (λ s. Fails rd s (tree_of n) h) (sym (field_shape d)) c.in-Err.ensures.fails in
    below rd (IsPlacedAt i f.1 f.2 (sequence_items all)) (Int i) f.1 (tree_of n) h g c.at_index.ensures w (IsPlacedAt.placed_field (item_first ts i (Some c.in-Some.item) look))

pub fields::read_place-returns-then-field-clause-gives : goal.fields::read_place-returns-then-field-clause-gives
fields::read_place-returns-then-field-clause-gives t c =
    let d = c.args.field.now in
    let f = field_of d in
    let none = no_item_at c.args.items.now c.args.place c.in-None.ensures.lookup.3 in
    let o : f.2 ≡ true = field_optional d ∙ c.if-field.true in
    ap (read_place f.2 (reads c.args.reader.reject_duplicates f.1)) none ∙ ap (λ b. read_place b (reads c.args.reader.reject_duplicates f.1) no_items) o

pub fields::read_place-returns-else-field-clause-gives : goal.fields::read_place-returns-else-field-clause-gives
fields::read_place-returns-else-field-clause-gives t c =
    let rd = c.args.reader.reject_duplicates in
    let d = c.args.field.now in
    let f = field_of d in
    let ts = c.args.items.now in
    let all = items_from (map tree_of ts) in
    let i = c.args.place in
    let e = c.error-error.result in
    let h = c.at_missing.result in
    let g = c.at_index-else-field.result in
    let none = no_item_at ts i c.in-None.ensures.lookup.3 in
    let o : f.2 ≡ false = field_optional d ∙ c.if-field.false in
    let t = items_are_text all in
    under_rejects t (Int i) h g _ c.at_index-else-field.ensures (here_rejects t (shape_of (out-Field d).shape) uninitialized e h _ c.at_missing.ensures
    (custom t e _ c.error-error.ensures (ap (read_place f.2 (reads rd f.1)) none ∙ ap (λ b. read_place b (reads rd f.1) no_items) o)))

pub fields::read_place-returns-else-field-clause-fails : goal.fields::read_place-returns-else-field-clause-fails
fields::read_place-returns-else-field-clause-fails t c =
    let rd = c.args.reader.reject_duplicates in
    let d = c.args.field.now in
    let f = field_of d in
    let ts = c.args.items.now in
    let all = items_from (map tree_of ts) in
    let i = c.args.place in
    let e = c.error-error.result in
    let h = c.at_missing.result in
    let g = c.at_index-else-field.result in
    let o : f.2 ≡ false = field_optional d ∙ c.if-field.false in
    below_missing rd (IsPlacedAt i f.1 f.2 (sequence_items all)) (Int i) f.1 e h g (subst (λ s. IsHere s uninitialized e h) (sym (field_shape d)) c.at_missing.ensures) c.at_index-else-field.ensures
    (IsPlacedAt.field_beyond o (item_first ts i None c.in-None.ensures.lookup))

pub fields::read_places-returns-in_err-value-clause-fails : goal.fields::read_places-returns-in_err-value-clause-fails
fields::read_places-returns-in_err-value-clause-fails t c =
    let rd = c.args.reader.reject_duplicates in
    let l = c.loop-i in
    let ds = c.deref-field-items.result.now in
    let fs = fields_in c.args.fields.now.items in
    let xs = sequence_items (items_from (map tree_of c.args.items.now)) in
    let f = c.in_err-value.field-0.0 in
    passes (FailsIn rd (IsPlaced fs xs)) c.from_residual.result f c.from_residual.ensures.1
    (places_fail rd ds l.i c.field-item.result fs xs f (omega arith) c.field-item.is (sym (ap fields_in c.deref-field-items.ensures.value)) c.in_err-value.ensures.fails)

pub fields::read_places-loop-i-preserved-in_default : goal.fields::read_places-loop-i-preserved-in_default
fields::read_places-loop-i-preserved-in_default t c =
    let l = c.loop-i in
    let d = c.field-item.result in
    let fs = c.deref-field-items.result.now in
    let ts = c.args.items.now in
    let ws = map (named data_of) l.members.items in
    let got = c.in_ok-value.ensures.gives ∙ ap (λ o. Some (option_map data_of o)) c.in_default.is in
    l.invariant ∙ places_more c.args.reader.reject_duplicates fs l.i d ts ws (omega arith) c.field-item.is None got

pub fields::read_places-loop-i-preserved : goal.fields::read_places-loop-i-preserved
fields::read_places-loop-i-preserved t c =
    let l = c.loop-i in
    let d = c.field-item.result in
    let fs = c.deref-field-items.result.now in
    let ts = c.args.items.now in
    let ws = map (named data_of) l.members.items in
    let x = c.in-Some.value in
    let m = c.in_ok-name.name in
    let rest = reads_places c.args.reader.reject_duplicates (fields_in (drop (l.i + 1) fs)) (items_from (map tree_of (drop (l.i + 1) ts))) in
    let got = c.in_ok-value.ensures.gives ∙ ap (λ o. Some (option_map data_of o)) c.in-Some.is in
    let turn = places_more c.args.reader.reject_duplicates fs l.i d ts ws (omega arith) c.field-item.is (Some (data_of x)) got in
    let copied : string_bytes m ≡ string_bytes (out-Field d).name = c.in_ok-name.ensures.cases in
    let name : (field_of d).0 ≡ string_bytes m = field_name d ∙ sym copied in
    let pushed : map (named data_of) c.push.new.self.items ≡ ws ++ (string_bytes m, data_of x) ∷ [] = grind (arith, common_steps) in
    l.invariant ∙ turn ∙ before-front ws ((field_of d).0, data_of x) rest
    ∙ ap (λ b. before (ws ++ (b, data_of x) ∷ []) rest) name ∙ ap (λ ys. before ys rest) (sym pushed)

pub variants::read_least-returns-in_default-clause-gives : goal.variants::read_least-returns-in_default-clause-gives
unfolding read_enum
variants::read_least-returns-in_default-clause-gives t c =
    let rd = c.args.reader.reject_duplicates in
    let vs = variants_in c.args.variants.now.items in
    let es = entries_of_map c.args.map.now in
    let s = Shape.enumeration vs in
    let e = c.error-error.result in
    let f = c.at_enum.result in
    let empty : es ≡ no_entries = after_none 0 es (sym c.in_default.ensures.value) in
    let none : tree_of c.args.node.now ≡ mapping no_entries = c.requires ∙ ap mapping empty in
    let here = c.at_enum.ensures (ap (unexpected_key s) none) in
    let t = entries_are_text es in
    here_rejects t s (tree_of c.args.node.now) e f _ here (custom t e _ c.error-error.ensures (ap (λ x. read_enum vs (reads_variant rd vs) (mapping x)) empty))

pub variants::read_least-returns-in_default-clause-fails : goal.variants::read_least-returns-in_default-clause-fails
variants::read_least-returns-in_default-clause-fails t c =
    let rd = c.args.reader.reject_duplicates in
    let vs = variants_in c.args.variants.now.items in
    let es = entries_of_map c.args.map.now in
    let s = Shape.enumeration vs in
    let e = c.error-error.result in
    let f = c.at_enum.result in
    let empty : es ≡ no_entries = after_none 0 es (sym c.in_default.ensures.value) in
    let none : tree_of c.args.node.now ≡ mapping no_entries = c.requires ∙ ap mapping empty in
    let here = c.at_enum.ensures (ap (unexpected_key s) none) in
    here_fails rd s (tree_of c.args.node.now) e f here (IsOwn.no_variant (ap (names_variant vs) none))

pub variants::read_least-returns-in-Err-clause-gives : goal.variants::read_least-returns-in-Err-clause-gives
variants::read_least-returns-in-Err-clause-gives t c =
    let rd = c.args.reader.reject_duplicates in
    let vs = variants_in c.args.variants.now.items in
    let es = entries_of_map c.args.map.now in
    let key = parsed_segment_of_key c.in-Some.key.now in
    let n = tree_of c.in-Some.value.now in
    let least : es ≡ entry key.segment key.escaped n (entries_after 1 es) = after_some 0 es (key, n) (sym c.in-Some.ensures.value) in
    let name = segment_text key.segment in
    let e = c.in-Err.error in
    let f = c.at_unnamed.result in
    let named = option_map Some (variant_named name vs) in
    let h = subst (λ ys. ReadRejects (is_utf8 name) e (option_map Some (variant_named name (variants_in ys)))) c.deref.ensures.value c.in-Err.ensures.named in
    rejected (is_utf8 name) (entries_are_text es) (error_in f) named (read_enum vs (reads_variant rd vs) (mapping es)) (key_rejects (is_utf8 name) key.segment (Shape.enumeration vs) e f named c.at_unnamed.ensures h)
    (enum_none rd vs es (entries_after 1 es) key.segment key.escaped n least) (key_bad 0 es (key, n) (sym c.in-Some.ensures.value))

pub variants::read_least-returns-in-Err-clause-fails : goal.variants::read_least-returns-in-Err-clause-fails
variants::read_least-returns-in-Err-clause-fails t c =
    let rd = c.args.reader.reject_duplicates in
    let vs = variants_in c.args.variants.now.items in
    let es = entries_of_map c.args.map.now in
    let key = parsed_segment_of_key c.in-Some.key.now in
    let n = tree_of c.in-Some.value.now in
    let least : es ≡ entry key.segment key.escaped n (entries_after 1 es) = after_some 0 es (key, n) (sym c.in-Some.ensures.value) in
    let name = segment_text key.segment in
    let e = c.in-Err.error in
    let f = c.at_unnamed.result in
    let h = subst (λ ys. ReadRejects (is_utf8 name) e (option_map Some (variant_named name (variants_in ys)))) c.deref.ensures.value c.in-Err.ensures.named in
    unnamed_fails rd vs (tree_of c.args.node.now) es (entries_after 1 es) key.segment key.escaped n (is_utf8 name) e f c.requires least c.at_unnamed.ensures h

pub variants::read_least-returns-in-Ok-read_variant-clause-gives : goal.variants::read_least-returns-in-Ok-read_variant-clause-gives
variants::read_least-returns-in-Ok-read_variant-clause-gives t c =
    let rd = c.args.reader.reject_duplicates in
    let vs = variants_in c.args.variants.now.items in
    let es = entries_of_map c.args.map.now in
    let key = parsed_segment_of_key c.in-Some.key.now in
    let n = tree_of c.in-Some.value.now in
    let least : es ≡ entry key.segment key.escaped n (entries_after 1 es) = after_some 0 es (key, n) (sym c.in-Some.ensures.value) in
    let name = segment_text key.segment in
    let ds = c.args.variants.now.items in
    let i = c.in-Ok.place in
    let v = c.index.result.now in
    let found = subst (λ ys. option_map Some (variant_named name (variants_in ys)) ≡ Some (option_map variant_of (slice_get ys i))) c.deref.ensures.value c.in-Ok.ensures.named in
    let inside = subst (λ ys. i < length ys) c.deref.ensures.value c.in-Ok.ensures.place in
    let named = named_is name ds i v found inside c.index.ensures in
    let same = enum_some rd vs es (entries_after 1 es) key.segment key.escaped n least v named in
    same ∙ c.in-Ok-read_variant.ensures.gives

pub variants::read_least-returns-in-Err-read_variant-clause-gives : goal.variants::read_least-returns-in-Err-read_variant-clause-gives
variants::read_least-returns-in-Err-read_variant-clause-gives t c =
    let rd = c.args.reader.reject_duplicates in
    let vs = variants_in c.args.variants.now.items in
    let es = entries_of_map c.args.map.now in
    let key = parsed_segment_of_key c.in-Some.key.now in
    let n = tree_of c.in-Some.value.now in
    let least : es ≡ entry key.segment key.escaped n (entries_after 1 es) = after_some 0 es (key, n) (sym c.in-Some.ensures.value) in
    let name = segment_text key.segment in
    let ds = c.args.variants.now.items in
    let i = c.in-Ok.place in
    let v = c.index.result.now in
    let found = subst (λ ys. option_map Some (variant_named name (variants_in ys)) ≡ Some (option_map variant_of (slice_get ys i))) c.deref.ensures.value c.in-Ok.ensures.named in
    let inside = subst (λ ys. i < length ys) c.deref.ensures.value c.in-Ok.ensures.place in
    let named = named_is name ds i v found inside c.index.ensures in
    let same = enum_some rd vs es (entries_after 1 es) key.segment key.escaped n least v named in
    let f = c.in-Err-read_variant.failure in
    let g = c.at_key.result in
    let t = entries_are_text es in
    let read = read_enum vs (reads_variant rd vs) (mapping es) in
    under_rejects t key.segment f g read c.at_key.ensures
    (rejected (is_text n) t (error_in f) (reads_kind rd (variant_of v).1 (variant_of v).0 n) read c.in-Err-read_variant.ensures.gives (λ none. same ∙ none) (value_bad 0 es (key, n) (sym c.in-Some.ensures.value)))

pub variants::read_least-returns-in-Err-read_variant-clause-fails : goal.variants::read_least-returns-in-Err-read_variant-clause-fails
variants::read_least-returns-in-Err-read_variant-clause-fails t c =
    let rd = c.args.reader.reject_duplicates in
    let vs = variants_in c.args.variants.now.items in
    let es = entries_of_map c.args.map.now in
    let key = parsed_segment_of_key c.in-Some.key.now in
    let n = tree_of c.in-Some.value.now in
    let least : es ≡ entry key.segment key.escaped n (entries_after 1 es) = after_some 0 es (key, n) (sym c.in-Some.ensures.value) in
    let name = segment_text key.segment in
    let ds = c.args.variants.now.items in
    let i = c.in-Ok.place in
    let v = c.index.result.now in
    let found = subst (λ ys. option_map Some (variant_named name (variants_in ys)) ≡ Some (option_map variant_of (slice_get ys i))) c.deref.ensures.value c.in-Ok.ensures.named in
    let inside = subst (λ ys. i < length ys) c.deref.ensures.value c.in-Ok.ensures.place in
    let named = named_is name ds i v found inside c.index.ensures in
    let f = c.in-Err-read_variant.failure in
    let g = c.at_key.result in
    subst (λ x. Fails rd (Shape.enumeration vs) x g) (sym c.requires)
    (in_variant rd vs es (entries_after 1 es) key.segment key.escaped n (variant_of v) f g least named c.at_key.ensures c.in-Err-read_variant.ensures.fails)

pub variants::read_variant-returns-in_err-held-in-Newtype-clause-fails : goal.variants::read_variant-returns-in_err-held-in-Newtype-clause-fails
variants::read_variant-returns-in_err-held-in-Newtype-clause-fails t c =
    let rd = c.args.reader.reject_duplicates in
    let n = tree_of c.args.value.now in
    let s = shape_of c.in-Newtype.part.value in
    let kind : (variant_of c.args.variant.now).1 ≡ newtype_kind s = variant_kind c.args.variant.now ∙ ap kind_of c.in-Newtype.is ∙ search (rules, kinds.the_lemmas) in
    let f = c.in_err-held-in-Newtype.field-0.0 in
    let r = c.from_residual-in_err-held-in-Newtype.result in
    let w = subst (λ x. Fails rd (shape_of x) n f) c.deref.ensures c.in_err-held-in-Newtype.ensures.fails in
    subst (λ k. IfErr r (FailsHeld rd k n)) (sym kind) (passes (FailsHeld rd (newtype_kind s) n) r f c.from_residual-in_err-held-in-Newtype.ensures.1 (holds rd (newtype_kind s) n s n f IsHeld.held_value w))

pub variants::read_variant-returns-in_err-items-in-Tuple-clause-fails : goal.variants::read_variant-returns-in_err-items-in-Tuple-clause-fails
variants::read_variant-returns-in_err-items-in-Tuple-clause-fails t c =
    let rd = c.args.reader.reject_duplicates in
    let n = tree_of c.args.value.now in
    let ss = shapes_in c.in-Tuple.parts.items in
    let kind : (variant_of c.args.variant.now).1 ≡ tuple_kind ss = variant_kind c.args.variant.now ∙ ap kind_of c.in-Tuple.is ∙ search (rules, kinds.the_lemmas) in
    let f = c.in_err-items-in-Tuple.field-0.0 in
    let r = c.from_residual-in_err-items-in-Tuple.result in
    subst (λ k. IfErr r (FailsHeld rd k n)) (sym kind)
    (passes (FailsHeld rd (tuple_kind ss) n) r f c.from_residual-in_err-items-in-Tuple.ensures.1 (holds rd (tuple_kind ss) n (Shape.tuple ss) n f IsHeld.held_tuple c.in_err-items-in-Tuple.ensures.fails))

pub variants::read_variant-returns-in-Struct-clause-fails : goal.variants::read_variant-returns-in-Struct-clause-fails
variants::read_variant-returns-in-Struct-clause-fails t c =
    let rd = c.args.reader.reject_duplicates in
    let n = tree_of c.args.value.now in
    let kind : (variant_of c.args.variant.now).1 ≡ struct_kind UnknownKeys.ignored (fields_in c.in-Struct.fields.items) = variant_kind c.args.variant.now ∙ ap kind_of c.in-Struct.is ∙ search (rules, kinds.the_lemmas) in
    subst (λ k. IfErr c.struct_variant_data.result (FailsHeld rd k n)) (sym kind) c.struct_variant_data.ensures.fails

pub variants::read_variant-returns-in-StrictStruct-clause-fails : goal.variants::read_variant-returns-in-StrictStruct-clause-fails
variants::read_variant-returns-in-StrictStruct-clause-fails t c =
    let rd = c.args.reader.reject_duplicates in
    let n = tree_of c.args.value.now in
    let kind : (variant_of c.args.variant.now).1 ≡ struct_kind UnknownKeys.rejected (fields_in c.in-StrictStruct.fields.items) = variant_kind c.args.variant.now ∙ ap kind_of c.in-StrictStruct.is ∙ search (rules, kinds.the_lemmas) in
    subst (λ k. IfErr c.struct_variant_data-in-StrictStruct.result (FailsHeld rd k n)) (sym kind) c.struct_variant_data-in-StrictStruct.ensures.fails

pub variants::struct_variant_data-returns-clause-gives : goal.variants::struct_variant_data-returns-clause-gives
unfolding reads
variants::struct_variant_data-returns-clause-gives t c =
    let k = c.in_ok-members in
    ap (option_map (λ ms. d.struct_variant (string_bytes c.args.name) (d.members_of ms))) k.ensures.gives ∙ ap Some (sym (data_of_struct_variant c.args.name k.members))

pub variants::struct_variant_data-returns-in_err-members-clause-fails : goal.variants::struct_variant_data-returns-in_err-members-clause-fails
variants::struct_variant_data-returns-in_err-members-clause-fails t c =
    let rd = c.args.reader.reject_duplicates in
    let n = tree_of c.args.value.now in
    let u = unknown_of c.args.unknown in
    let fs = fields_in c.args.fields.now.items in
    let f = c.in_err-members.field-0.0 in
    passes (FailsHeld rd (struct_kind u fs) n) c.from_residual.result f c.from_residual.ensures.1 (holds rd (struct_kind u fs) n (Shape.struct u fs) (as_map n) f IsHeld.held_fields c.in_err-members.ensures.fails)

pub variants::read_variant_fields-returns-in-String-clause-gives : goal.variants::read_variant_fields-returns-in-String-clause-gives
unfolding struct_members
variants::read_variant_fields-returns-in-String-clause-gives t c =
    let fs = fields_in c.args.fields.now.items in
    let n = tree_of c.args.value.now in
    let allowed = keys_are_allowed (unknown_of c.args.unknown) fs in
    let names = reads_names c.args.reader.reject_duplicates fs in
    let places = reads_places c.args.reader.reject_duplicates fs in
    let seen : as_map n ≡ mapping (under_empty n) = ap (λ x. as_map (tree_of x)) c.in-String.is ∙ text_as_map c.in-String.field-0 ∙ ap (λ x. mapping (under_empty (tree_of x))) (sym c.in-String.is) in
    fails_as (λ x. map (named data_of) x.items) (entries_are_text (under_empty n)) (is_text n) c.read_entries.result _ (struct_members allowed names places (as_map n))
    c.read_entries.ensures.gives (ap (struct_members allowed names places) (sym seen)) (under_bad n)

pub variants::read_variant_fields-returns-in-String-clause-fails : goal.variants::read_variant_fields-returns-in-String-clause-fails
variants::read_variant_fields-returns-in-String-clause-fails t c =
    let rd = c.args.reader.reject_duplicates in
    let u = unknown_of c.args.unknown in
    let fs = fields_in c.args.fields.now.items in
    let n = tree_of c.args.value.now in
    let seen : as_map n ≡ mapping (under_empty n) = ap (λ x. as_map (tree_of x)) c.in-String.is ∙ text_as_map c.in-String.field-0 ∙ ap (λ x. mapping (under_empty (tree_of x))) (sym c.in-String.is) in
    if_err c.read_entries.result c.read_entries.ensures.fails (λ f w. subst (λ x. Fails rd (Shape.struct u fs) x f) (sym seen) (in_keys rd u fs (under_empty n) f w))
