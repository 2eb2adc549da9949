-- The names that the proofs of this crate cite most, passed on from one place. Declares nothing.
pub use Rattle.std.proofs.Common.{Bool, Equal, Err, Fits, Greater, Less, List, None, Ok, Option, Ordering, Result, Some, [], add-one, ap, append-nil, append_assoc, ap₂, arith, codes, cond, decimal, drop, drop-drop, eqb, false, get_or, inl, inr, is_eq, leb, length, length-append, length-drop, lt-ltb, ltb, map, nat_cmp, nat_lt, neg_ℤ, negsuc, not, of_z, pos, refl, rules, slice_get, slice_index, string_bytes, subst, suc, sym, take, to_z, true, vec_len, w64, w8, zero, ℕ, ℤ, ◌&&◌, ◌*◌, ◌++◌, ◌+◌, ◌-◌, ◌<ℤ◌, ◌<◌, ◌==◌, ◌^◌, ◌||◌, ◌∙◌, ◌∷◌, ◌≡◌, ◌≢◌, ◌≤ℤ◌, ◌≤◌, ◌⊎◌}
pub use Rattle.qs_spec.specs.Config.{ArrayFormat, Config, are_rejected, element_segment}
pub use Rattle.qs_spec.specs.Data.{Named, Values, one_pair, one_value, pairs_of, values_of}
pub use Rattle.qs_spec.specs.Entry.{Entry, Output, Path, EntryError, and_then, bad_key, boolean_text, follow, key_text, maybe_deeper, nothing, one, failure, too_deep, under_key}
pub use Rattle.qs_spec.specs.Escape.{encoded, is_between, encoded_byte}
pub use Rattle.qs_spec.specs.Fits.{each_fits, fits, fits_fields, fits_pairs, fits_tuple, is_byte, variant_kind}
pub use Rattle.qs_spec.specs.Listed.{are_listed, are_listed_members, are_listed_pairs, are_scalars, is_empty_text, is_one_empty}
pub use Rattle.qs_spec.specs.Node.{are_ints, as_map, found, is_int, is_place, item_text, items, keys_are_allowed, keys_are_names, keys_are_text, last_item, placed, sequence_items, under_empty, value_at_key}
pub use Rattle.qs_spec.specs.Plain.{are_plain, are_plain_members, are_plain_pairs, count, has_members, has_values, is_member_name, is_written_key, member_names_differ, written_keys_differ}
pub use Rattle.qs_spec.specs.Scalar.{boolean_data, character_data, is_numeral, key_data, numeral_up_to, only_character, signed_data, signed_number, text_data, unsigned_data, unsigned_number}
pub use Rattle.qs_spec.specs.Segment.{Segment, ParsedSegment, is_same_segment, number, segment_text}
pub use Rattle.qs_spec.specs.Shape.{Fields, KeyShape, Shape, Variants, are_distinct, are_distinct_fields, are_distinct_variants, are_ignored, field_names_differ, is_distinct, is_field_name, is_option, is_variant_name, names_differ, no_fields, no_shapes, no_variants, one_field, one_variant, unit_kind, variant_names_differ}
pub use Rattle.qs_spec.specs.Tree.{Entries, Items, Tree}
pub use Rattle.qs_spec.specs.Tree.Entries.{entry, no_entries}
pub use Rattle.qs_spec.specs.Tree.Items.{item, no_items}
pub use Rattle.qs_spec.specs.Tree.Tree.{leaf, mapping, sequence, uninitialized}
pub use Rattle.qs_spec.specs.Written.{brackets_text, close_bytes, entry_text, has_key, open_bytes, value_text, written}
pub use Rattle.qs_spec.specs.internal.ReadFunction.{Reader, any_data, any_items, any_pairs, any_places, is_unit_kind, items_after, read_by, read_each, read_enum, read_field, read_option, read_pairs, read_place, read_scalar, reads, reads_kind, reads_names, reads_places, reads_tuple, reads_variant, unit_variant_data, with_field, with_front}
pub use Rattle.qs_tree.specs.declared.error.Error.{Error}
pub use Rattle.qs_tree.specs.declared.error.Error.TheVariants.{Custom, Utf8}
pub use Rattle.qs_tree.specs.declared.tree.value.ParsedValue.{ParsedValue}
pub use Rattle.qs_tree.specs.tree.Views.{entries_of_map, entry_list, items_from, segment_of_key, parsed_segment_of_key, tree_of}
pub use Rattle.qs_data.specs.data.Views.{data_of, members_in, named, pair_of, pairs_in, unchanged, values_in}
pub use Rattle.qs_data.specs.data.internal.Equality.{data_same, members_same, pairs_same, values_same}
pub use Rattle.qs_data.specs.data.internal.Weight.{member_weight, pair_weight, weight}
pub use Rattle.qs_data.specs.declared.data.data.Data.{Data}
pub use Rattle.qs_data.specs.declared.read.error.ReadError.{ReadError}
pub use Rattle.qs_data.specs.declared.write.entry.Walk.{Walk}
pub use Rattle.qs_data.specs.declared.write.stop.Stop.{Stop}
pub use Rattle.qs_data.specs.declared.write.stop.Stop.TheVariants.{BadKey, Io, OutOfMemory, TooDeep}
pub use Rattle.qs_data.specs.read.Entries.{first_entry}
pub use Rattle.qs_data.specs.read.Gives.{Gives, Rejects}
pub use Rattle.qs_data.specs.read.Items.{are_text, first_item, items_view}
pub use Rattle.qs_data.specs.read.Keys.{KeyFits, NumbersFit, PassesTest, entries_view}
pub use Rattle.qs_data.specs.read.Parsed.{Parsed, ReturnsData, AllocatesOnlyForErrors, parsed_of, allocates_nothing}
pub use Rattle.qs_data.specs.read.TreeText.{entries_are_text, is_text, items_are_text}
pub use Rattle.qs_data.specs.read.internal.GivenText.{data_by_text, given_text, utf8_text}
pub use Rattle.qs_data.specs.read.internal.Keys.{entries_after, passed, unknown_of, value_in, when}
pub use Rattle.qs_data.specs.read.internal.Nesting.{Advances, Begins, Enters, Extends, Visits, entries_left, frame_after, frame_data, frame_is_text, frame_size, items_left, list_begun, map_begun}
pub use Rattle.qs_data.specs.read.Narrowed.{error_of}
pub use Rattle.qs_data.specs.read.internal.ReadError.{ReadGives, ReadIsCustom, ReadIsFrugal, ReadRejects, ReadRunsOutOnlyToReject}
pub use Rattle.qs_data.specs.read.internal.Sizes.{entries_size, items_size, list_size, tree_size}
pub use Rattle.qs_data.specs.shape.Variants.{variant_named}
pub use Rattle.qs_data.specs.shape.Views.{field_of, fields_in, key_shape_of, kind_of, shape_of, shapes_in, variant_of, variants_in}
pub use Rattle.qs_data.specs.shape.Widths.{bits_of}
pub use Rattle.qs_data.specs.shape.internal.Fitting.{fits_variant, is_next}
pub use Rattle.qs_data.specs.write.Parts.{Leaves, Part, WritesPart, both, data_part, element, elements_part, members_part, pairs_part, state_of, under}
pub use Rattle.qs_data.specs.write.Scalars.{scalar_text}
pub use Rattle.qs_data.specs.write.State.{IsVisible}
pub use Rattle.qs_data.specs.write.Writes.{Adds, AddsPart, AddsSome, EntersAt, IsAt, IsBarred, LeavesAt, Stops, StreamState, Writes, WritesAt, grown, path_after, state_in}
pub use Rattle.std.proofs.KnownBytes.{Appends-nil, Appends-trans}
pub use Rattle.std.proofs.Math.Bool.{and-false, and-true, or-false, or-true}
pub use Rattle.std.proofs.Math.Seq.{take-add, take-append-add, take-append_seam}
pub use Rattle.std.proofs.lemmas.Bool.{MatchBool-at_false, MatchBool-at_true, agree_below_at, cases_Bool, eqb-false, false≢true, le-ltb, ne_eqb}
pub use Rattle.std.proofs.lemmas.Bool.Decides.{nat_tests}
pub use Rattle.std.proofs.lemmas.Fmt.{IsAscii-decimal, decimal_injective, decimal_is_IsNumeral, decimal_nonempty, digits_decimal, parse-decimal}
pub use Rattle.std.proofs.lemmas.Grind.{common_steps, flat_map-append}
pub use Rattle.std.proofs.lemmas.List.{at_drop_all, drop-append-le, drop_all, drop_more, length-take, take-append-drop, take-append-le, take_rest}
pub use Rattle.std.proofs.lemmas.List.Elements.{All-append, All-cons, All-drop, All-from_get_or, All-head, All-nil, All-pop, All-push, All-tail, All-take}
pub use Rattle.std.proofs.lemmas.Option.{same_Some, slice_get-get_or}
pub use Rattle.std.proofs.lemmas.Str.{IsUtf8-from_ascii, IsUtf8-from_is_utf8, IsUtf8-string_bytes, chars-nil, chars_past_char, encodes-chars, is_utf8-from_IsUtf8, len_utf8_bounds, length-encode, scalars-chars}
pub use Rattle.std.specs.Io.KnownBytes.{Appends}
pub use Rattle.std.specs.List.{All, AllByRecursion, list_all, list_any, sum_by}
pub use Rattle.std.specs.Option.{option_and_then, option_map}
pub use Rattle.std.specs.Result.{IsErrAnd, MatchResult, result_and}
pub use Rattle.std.specs.Str.{IsAscii, IsUtf8, all_scalars, bytes_eq, encode_utf8_all, is_utf8}
pub use Rattle.std.specs.declared.alloc.Global.{Global}
pub use Rattle.std.specs.declared.string.String.{String}
pub use Rattle.std.specs.declared.vec.Vec.{Vec}
