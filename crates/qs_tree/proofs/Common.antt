-- The names that the proofs of this crate cite most, passed on from one place. Declares nothing.
pub use Rattle.qs_spec.proofs.Permuted.{Perm, Perm-from, perm_heads, perm_map}
pub use Rattle.qs_tree.specs.contracts.tree.key.KeyOrd.TheImpl.Laws.{matches_eq-law, total-law}
pub use Rattle.qs_tree.specs.internal.build.Distinct.{HaveDistinctKeys, hash_of}
pub use Rattle.std.proofs.Common.{Bool, Bor, Equal, Err, Fits, Global, Greater, IfOk, IsTrue, Less, List, None, Ok, Option, Ordering, Result, Some, Vec, [], ap, append-nil, append_assoc, ap₂, arith, cond, count_by, count_ones, drop, drop-drop, eqb-true, false, fold, get_or, inl, inr, is_lt, le_refl, leb, length, length-append, length-drop, ltb, map, nat_le, not, option_and_then, option_map, refl, replicate, rules, slice_get, slice_index, slice_index_or, slice_set, subst, suc, sym, take, true, true≢false, unwrap_or, w8, zero, ℕ, ⊎_elim, ◌%◌, ◌&&◌, ◌*◌, ◌++◌, ◌+◌, ◌-◌, ◌/◌, ◌<◌, ◌==◌, ◌^◌, ◌||◌, ◌↔◌, ◌∙◌, ◌∷◌, ◌≡◌, ◌≢◌, ◌≤◌, ◌⊎◌}
pub use Rattle.qs_spec.proofs.Booleans.{and_both, or_both}
pub use Rattle.qs_spec.proofs.Order.{is_itself, segments_total}
pub use Rattle.qs_spec.proofs.TreeOf.{one_tree, same_segment}
pub use Rattle.qs_spec.specs.Escape.{decoded, encoded, escape, is_between, is_kept_in_query, has_escape, encoded_byte, unplus}
pub use Rattle.qs_spec.specs.Grammar.{ArePairs, Pair, assigned, ends_last, ends_root, is_amp, is_close, is_equals, is_open, longer, pushed, root}
pub use Rattle.qs_spec.specs.Leaf.{Leaf}
pub use Rattle.qs_spec.specs.Escapes.{entry_escapes, item_escapes, key_escapes, escapes}
pub use Rattle.qs_spec.specs.Order.{AreEquivalent, AreReordered, ignoring_escapes}
pub use Rattle.qs_spec.specs.Node.{value_at_key}
pub use Rattle.qs_spec.specs.Segment.{Segment, ParsedSegment, compare_segments, is_index, is_same_segment, number, segment_of, parsed_segment_of, Int, Str}
pub use Rattle.qs_spec.specs.Token.{TokenKind, Token, byte_kind, byte_token, is_escaped_bracket, raw_of, tokens, Amp, Close, Equals, Open, Other}
pub use Rattle.qs_spec.specs.Tree.{Entries, HasNoTree, IsTree, Tree, empty_segment, entries_of, node_of_leaves, head_escaped, heads, node_within, entry, no_entries, leaf, mapping, sequence, uninitialized}
pub use Rattle.qs_spec.specs.internal.InPlace.{add, add_all, add_below, add_to_leaves, add_here, push_item, update, update_by}
pub use Rattle.qs_spec.specs.internal.Parsing.{Rest, after_close, after_close_at, after_root, after_root_at, after_run, and_pairs, cut, cut_at, in_last, in_segment, named, parsed_brackets, parsed_pairs, parsed_value, value_at, with_leaf}
pub use Rattle.qs_tree.specs.Error.{IfParse, IsOutOfMemory, IsParse, OnlyOutOfMemory, OnlyParseOrOutOfMemory}
pub use Rattle.qs_tree.specs.Parsing.{HoldsOf, AllocatesNothing, is_ampersands, is_unescaped, is_unescaped_value}
pub use Rattle.qs_tree.specs.declared.build.builder.MapBuilder.{MapBuilder, Vector}
pub use Rattle.qs_tree.specs.declared.build.builder.TreeBuilder.{TreeBuilder, Value}
pub use Rattle.qs_tree.specs.declared.build.conflict.AddError.{AddError}
pub use Rattle.qs_tree.specs.declared.build.finishing.OuterLevel.{OuterLevel}
pub use Rattle.qs_tree.specs.declared.error.Error.{Error}
pub use Rattle.qs_tree.specs.declared.error.Error.TheVariants.{OutOfMemory, Parse}
pub use Rattle.qs_tree.specs.declared.tree.key.Key.{Key}
pub use Rattle.qs_tree.specs.declared.tree.map.ParsedMap.{ParsedMap}
pub use Rattle.qs_tree.specs.declared.tree.value.ParsedValue.{Map, NoValue, Null, ParsedValue, Sequence, Uninitialized, ind-ParsedValue, the_lemmas}
pub use Rattle.qs_tree.specs.declared.tree.value.ParsedValue.TheViews.{roll-ParsedMap, roll-ParsedValue}
pub use Rattle.qs_tree.specs.escape.Classes.{is_ampersand, is_encoded, is_escape}
pub use Rattle.qs_tree.specs.internal.Parsing.{Returns, grown}
pub use Rattle.qs_tree.specs.internal.build.Adding.{Adds, AddGives, IsRejected, entries_below, second}
pub use Rattle.qs_tree.specs.internal.build.Builder.{HasNoMap, IsNoMap, Takes, as_builders, built_entries, built_tree, child, entries_held, entries_seen, fresh, unsorted_entries}
pub use Rattle.qs_tree.specs.internal.build.Descent.{AreKeys, IsFresh, IsOpen, IsWithoutMaps, open_entries, put_all_back, put_back, whole_tree}
pub use Rattle.qs_tree.specs.internal.build.Finishing.{IsOpened, built_pairs, entries_map_count, left_pairs, level_pairs, maps_left, with_node}
pub use Rattle.qs_tree.specs.internal.build.Unsorted.{AreLeaves, entries_of_leaves, is_leaf, leaf_held, leaf_pairs}
pub use Rattle.qs_tree.specs.internal.escape.Copying.{swapped}
pub use Rattle.qs_tree.specs.internal.escape.Search.{NoneBetween, class_mask, first_set, is_escaped}
pub use Rattle.qs_tree.specs.internal.scan.Cursor.{IsInside, IsLeft, IsPast, KnowsEnd, classes_of, ended_after, ends_of, from_token, in_all, kind_of_token, left, looks, raw_from_token, spent, taken, to_come, token_of}
pub use Rattle.qs_tree.specs.internal.scan.Pairs.{is_push, leaf_in, leaf_of, pair_of, path_of}
pub use Rattle.qs_tree.specs.internal.scan.Parser.{Follows, FollowsStop, IsClosing, IsEnd, IsMore, IsParseError, ParsesItem, ParsesPair, from_root, from_root_at, is_nothing, root_path}
pub use Rattle.qs_tree.specs.internal.scan.Raw.{index_from, index_of}
pub use Rattle.qs_tree.specs.internal.scan.Unallocated.{IsEqualsStop, ParsesUnallocated, StaysUnallocated}
pub use Rattle.qs_tree.specs.internal.tree.KeyTrees.{key_trees}
pub use Rattle.qs_tree.specs.internal.tree.NodeCount.{entries_node_count, items_node_count, node_count}
pub use Rattle.qs_tree.specs.internal.tree.Places.{IsGap, IsHit, against, put_value}
pub use Rattle.qs_tree.specs.tree.Equality.{entries_same, items_same, tree_same}
pub use Rattle.qs_tree.specs.tree.Keys.{key_cmp, key_eq, value_eq}
pub use Rattle.qs_tree.specs.tree.Lookup.{binary_digits}
pub use Rattle.qs_tree.specs.tree.Ordered.{AreOrdered, IsBefore}
pub use Rattle.qs_tree.specs.tree.Owned.{entries_own, items_own, key_owns, map_owns, owns}
pub use Rattle.qs_tree.specs.tree.Views.{entries_from, entries_of_map, entry_list, items_of, is_owned_key, map_pairs, segment_of_key, parsed_segment_of_key, take_out, tree_of}
pub use Rattle.std.proofs.Math.ListN.{drop_of_length-le}
pub use Rattle.std.proofs.Math.Seq.{take-add, take-append-add, take-append_seam, take-length}
pub use Rattle.std.proofs.lemmas.Bool.{agree_below, agree_below_at, and_parts, cases_Bool, cases_lt, cond-false, cond-true, le-leb, le-ltb, leb-false, leb-true, lt-leb, lt-ltb, ltb-false, ltb-true, not-false, not-true}
pub use Rattle.std.proofs.lemmas.Fn.{always_returns_same}
pub use Rattle.std.proofs.lemmas.List.Quantifiers.{position-Some}
pub use Rattle.std.proofs.lemmas.List.Sorted.{All-permutation, IsPermutation-sym}
pub use Rattle.std.proofs.lemmas.List.{drop-append-le, drop_all, drop_at, drop_more, get_or-map, get_or-take, length-map, length-set, length-take-le, map-append, map-id, nil_from_length, take-append-drop, take-map, take-take, take_all}
pub use Rattle.std.proofs.lemmas.List.Elements.{All-from_get_or, filter_agree}
pub use Rattle.std.proofs.lemmas.List.Folds.{list_all-append, list_any_none}
pub use Rattle.std.proofs.lemmas.List.Sums.{count_by-le-length, fails_before_first, position_or_len_is, sum_by-append, sum_by-cons}
pub use Rattle.std.proofs.lemmas.Map.Keys.{IsDistinct-IsPermutation, IsDistinct-from_sorted, Less-from_sorted, apart_from_distinct, sorted_from_all_adjacent, sorted_from_strictly_increasing, sorted_head, sorted_tail}
pub use Rattle.std.proofs.lemmas.Option.{none-some, same_Some, slice_get-get_or}
pub use Rattle.std.proofs.lemmas.Result.{IfOk-weaker}
pub use Rattle.std.proofs.lemmas.Simd.{bitmask_splat, chunk-fits, first_set_mask_l, length-chunk, map-map, mask_l-lt, mask_l-mod, ones-mask_l, run_in_chunk_fails, run_in_chunk_le, run_in_chunk_stops, splat_is_map, take_more_put_chunk, tops_compared, zip2_of_maps, zip2_splat}
pub use Rattle.std.specs.BTreeMap.{btree_map_len, insert_entry, is_at}
pub use Rattle.std.specs.Cmp.{Equal-is, IsTotalOrder, nat_cmp_is, ranks}
pub use Rattle.std.specs.Cmp.Lexicographic.{slice_cmp}
pub use Rattle.std.specs.Fmt.{HasWritten, IsPlainFormatter, digit_glyph}
pub use Rattle.std.specs.List.{AllByRecursion, filter, insert, list_all, list_any, position, position_or_len, prefix_len, remove}
pub use Rattle.std.specs.List.Sorted.{IsPermutation, IsStableBy, ties}
unfoldable pub use Rattle.std.specs.List.Sorted.{IsStrictlySortedBy}
pub use Rattle.std.specs.Map.{keys_of, lookup, remove_entry, set_value}
pub use Rattle.std.specs.Option.{IfNone, IfSome, is_some}
pub use Rattle.std.specs.Ordering.{MatchOrdering, is_eq, is_ne, nat_cmp, ordering_reverse, ordering_then}
pub use Rattle.std.specs.Prelude.{bit_and, IsOk, nat_lt}
pub use Rattle.std.specs.Result.{IsErrAnd}
pub use Rattle.std.specs.Str.Chunks.{utf8_chunks_rest}
pub use Rattle.std.specs.Str.Lossy.{replacement_bytes, utf8_lossy}
pub use Rattle.std.specs.Vec.Iter.{into_iter_items, into_iter_len}
pub use Rattle.std.specs.declared.borrow.CowSlice.{CowSlice}
pub use Rattle.std.specs.declared.borrow.CowSlice.TheVariants.{Borrowed, Owned}
pub use Rattle.std.specs.declared.collections.BTreeMap.{BTreeMap}
pub use base.Logic.{SProp, emp, ent, fst∗, via}
pub use contract.Monad.{Fun}
pub use denote.Shadow.{pure_i}
pub use denote.Triple.Entry.{Args, alive, on_entry}
pub use denote.Triple.Spec.{Meets, triple_of}
pub use denote.Triple.Table.{entered}
pub use denote.Triple.Walked.{Goes-none_ref, Stays, Walks, ends_at, says, stay_none_ref, walk_Meets, walk_of, walked}
pub use lib.Lanes.{Each1, chunk, mask_l, put_chunk, sel_l, top, zip2}
pub use mir.Val.{Val, vnil, vptr, vstruct}
pub use prog.Memory.{Memory}
pub use prog.Routine.{Routine}
pub use prog.Wp.{Calls, Loops, Tables, WpFn}
pub use seplogic.Ra.Ura.{Ura}
pub use sound.WpLaws.{WpFn-mono}
pub use types.ByLocal.{alloc_all, free_all, look_at, pass_all, sets}
pub use types.Kit.{ !, done, move, qed, raw, suffices, ‵, ◌$◌, ◌∵◌}
pub use types.Logic.{Logic}
pub use types.Part.{agg}
pub use types.Run.{enter, no_more, returns}
