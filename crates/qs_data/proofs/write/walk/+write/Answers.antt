use Rattle.qs_data.proofs.Common.{sym, arith, length, ◌<◌, ◌+◌, refl, vec_len, eqb-false, Err, failure, bad_key, BadKey, data_of, values_in, pairs_in, members_in, scalar_text, data_part, elements_part, pairs_part, members_part, element, under}
use Rattle.qs_data.proofs.lemmas.write.Wrote.{goes_on, ends_early, ends, adds_nothing}
use Rattle.qs_data.proofs.lemmas.write.Walk.{stays_out, writes_under, stops_under, elements_left, pairs_left, members_left, elements_here_by, elements_end_by, pairs_here, pairs_end, members_here, members_end, list_elements, map_pairs, variant_elements}
use Rattle.qs_data.proofs.write.walk.+write.Goals as goal

pub write_data-returns-else-is_empty-clause-writes : goal.write_data-returns-else-is_empty-clause-writes
write_data-returns-else-is_empty-clause-writes g t c =
    let v = c.in-Map.pairs in
    let some : 0 < length v.items = omega (arith, v.ok.0, eqb-false (vec_len v) 0 (sym c.if-is_empty.ensures)) in
    λ config path at. rw (map_pairs config.max_depth config.array_format c.args.datum.now v path c.in-Map.is some) (c.write_pairs.ensures.writes config path at)

pub write_data-returns-else-is_empty-2-clause-writes : goal.write_data-returns-else-is_empty-2-clause-writes
write_data-returns-else-is_empty-2-clause-writes g t c =
    let v = c.in-Seq.items in
    let some : 0 < length v.items = omega (arith, v.ok.0, eqb-false (vec_len v) 0 (sym c.if-is_empty-2.ensures)) in
    λ config path at. rw (list_elements config.max_depth config.array_format c.args.datum.now v path c.in-Seq.is some) (c.write_elements.ensures.writes config path at)

pub write_data-returns-in-TupleVariant-clause-writes : goal.write_data-returns-in-TupleVariant-clause-writes
write_data-returns-in-TupleVariant-clause-writes g t c =
    let v = c.in-TupleVariant.items in
    λ config path at. rw (variant_elements config.max_depth config.array_format c.args.datum.now c.in-TupleVariant.name v path c.in-TupleVariant.is, ← c.as_bytes-in-TupleVariant.ensures.value)
    (c.write_tuple_variant.ensures.writes config path at)

pub write_under-returns : goal.write_under-returns
write_under-returns g t c = record {
  writes = λ config. writes_under config (scalar_text c.args.segment) (data_part (data_of c.args.part.now)) _ _ _ _ (c.in_ok-len.ensures.ok config) _ _ c.in_ok-len.len (c.in_ok-write_data.ensures.writes config) (c.leave.ensures config) c.in_ok-len.ensures.len;
}

pub write_under-returns-in_err-len : goal.write_under-returns-in_err-len
write_under-returns-in_err-len g t c = record {
  writes = λ config. stays_out _ c.in_err-len.field-0.0 config _ _ c.enter.new.self (scalar_text c.args.segment) (data_part (data_of c.args.part.now)) c.from_residual.ensures.1 (c.in_err-len.ensures.err config);
}

pub write_under-returns-in_err-write_data : goal.write_under-returns-in_err-write_data
write_under-returns-in_err-write_data g t c = record {
  writes = λ config. stops_under config (scalar_text c.args.segment) (data_part (data_of c.args.part.now)) _ _ _ _ (c.in_ok-len.ensures.ok config) _ c.in_err-write_data.field-0.0 _ c.from_residual-in_err-write_data.ensures.1 (c.in_err-write_data.ensures.writes config);
}

pub write_tuple_variant-returns : goal.write_tuple_variant-returns
write_tuple_variant-returns g t c = record {
  writes = λ config. writes_under config c.args.name.now (elements_part 0 (values_in c.args.items.now.items)) _ _ _ _ (c.in_ok-len.ensures.ok config) _ _ c.in_ok-len.len (c.in_ok-write_elements.ensures.writes config) (c.leave.ensures config) c.in_ok-len.ensures.len;
}

pub write_tuple_variant-returns-in_err-len : goal.write_tuple_variant-returns-in_err-len
write_tuple_variant-returns-in_err-len g t c = record {
  writes = λ config. stays_out _ c.in_err-len.field-0.0 config _ _ c.enter.new.self c.args.name.now (elements_part 0 (values_in c.args.items.now.items)) c.from_residual.ensures.1 (c.in_err-len.ensures.err config);
}

pub write_tuple_variant-returns-in_err-write_elements : goal.write_tuple_variant-returns-in_err-write_elements
write_tuple_variant-returns-in_err-write_elements g t c = record {
  writes = λ config. stops_under config c.args.name.now (elements_part 0 (values_in c.args.items.now.items)) _ _ _ _ (c.in_ok-len.ensures.ok config) _ c.in_err-write_elements.field-0.0 _ c.from_residual-in_err-write_elements.ensures.1 (c.in_err-write_elements.ensures.writes config);
}

pub write_struct_variant-returns : goal.write_struct_variant-returns
write_struct_variant-returns g t c = record {
  writes = λ config. writes_under config c.args.name.now (members_part (members_in c.args.members.now.items)) _ _ _ _ (c.in_ok-len.ensures.ok config) _ _ c.in_ok-len.len (c.in_ok-write_members.ensures.writes config) (c.leave.ensures config) c.in_ok-len.ensures.len;
}

pub write_struct_variant-returns-in_err-len : goal.write_struct_variant-returns-in_err-len
write_struct_variant-returns-in_err-len g t c = record {
  writes = λ config. stays_out _ c.in_err-len.field-0.0 config _ _ c.enter.new.self c.args.name.now (members_part (members_in c.args.members.now.items)) c.from_residual.ensures.1 (c.in_err-len.ensures.err config);
}

pub write_struct_variant-returns-in_err-write_members : goal.write_struct_variant-returns-in_err-write_members
write_struct_variant-returns-in_err-write_members g t c = record {
  writes = λ config. stops_under config c.args.name.now (members_part (members_in c.args.members.now.items)) _ _ _ _ (c.in_ok-len.ensures.ok config) _ c.in_err-write_members.field-0.0 _ c.from_residual-in_err-write_members.ensures.1 (c.in_err-write_members.ensures.writes config);
}

pub write_elements-returns : goal.write_elements-returns
write_elements-returns g t c =
    let l = c.loop-place in
    let xs = c.deref-item-items.result.now in
    record { writes = λ config. rw (← c.deref-item-items.ensures.value) (ends config _ _ _ _ (elements_left xs l.place) (elements_part 0 (values_in xs)) (l.invariant config) (λ path. elements_end_by data_of config.max_depth config.array_format xs l.place path (omega arith))) }

pub write_elements-loop-place-preserved : goal.write_elements-loop-place-preserved
write_elements-loop-place-preserved g t c = λ config.
    let l = c.loop-place in
    let xs = c.deref-item-items.result.now in
    let x = c.item-item.result in
    goes_on config _ _ _ _ (elements_left xs l.place) (elements_part 0 (values_in xs)) (l.invariant config) _ _ (element l.place (data_part (data_of x))) (elements_left xs (l.place + 1))
    (λ path. elements_here_by data_of config.max_depth config.array_format xs l.place x path (omega arith) c.item-item.is) (c.in_ok-write_element.ensures.writes config)

pub write_elements-returns-in_err-write_element : goal.write_elements-returns-in_err-write_element
write_elements-returns-in_err-write_element g t c =
    let l = c.loop-place in
    let xs = c.deref-item-items.result.now in
    let x = c.item-item.result in
    record {
      writes = λ config. rw (← c.deref-item-items.ensures.value) (ends_early config _ _ _ _ (elements_left xs l.place) (elements_part 0 (values_in xs)) (l.invariant config) _ c.in_err-write_element.field-0.0 _ _ (element l.place (data_part (data_of x))) (elements_left xs (l.place + 1))
          c.from_residual.ensures.1 (λ path. elements_here_by data_of config.max_depth config.array_format xs l.place x path (omega arith) c.item-item.is) (c.in_err-write_element.ensures.writes config));
    }

pub write_members-returns : goal.write_members-returns
write_members-returns g t c =
    let l = c.loop-member in
    let xs = c.deref-member-items.result.now in
    record { writes = λ config. rw (← c.deref-member-items.ensures.value) (ends config _ _ _ _ (members_left xs l.member-index) (members_part (members_in xs)) (l.invariant config) (λ path. members_end config.max_depth config.array_format xs l.member-index path (omega arith))) }

pub write_members-loop-member-preserved : goal.write_members-loop-member-preserved
write_members-loop-member-preserved g t c = λ config.
    let l = c.loop-member in
    let xs = c.deref-member-items.result.now in
    let x = c.member-item.result in
    goes_on config _ _ _ _ (members_left xs l.member-index) (members_part (members_in xs)) (l.invariant config) _ _ (under c.as_bytes.result.now (data_part (data_of x.1))) (members_left xs (l.member-index + 1))
    (λ path. members_here config.max_depth config.array_format xs l.member-index x path _ (omega arith) c.member-item.is c.as_bytes.ensures.value) (c.in_ok-write_under.ensures.writes config)

pub write_members-returns-in_err-write_under : goal.write_members-returns-in_err-write_under
write_members-returns-in_err-write_under g t c =
    let l = c.loop-member in
    let xs = c.deref-member-items.result.now in
    let x = c.member-item.result in
    record {
      writes = λ config. rw (← c.deref-member-items.ensures.value) (ends_early config _ _ _ _ (members_left xs l.member-index) (members_part (members_in xs)) (l.invariant config) _ c.in_err-write_under.field-0.0 _ _ (under c.as_bytes.result.now (data_part (data_of x.1))) (members_left xs (l.member-index + 1))
          c.from_residual.ensures.1 (λ path. members_here config.max_depth config.array_format xs l.member-index x path _ (omega arith) c.member-item.is c.as_bytes.ensures.value) (c.in_err-write_under.ensures.writes config));
    }

pub write_pairs-returns : goal.write_pairs-returns
write_pairs-returns g t c =
    let l = c.loop-pair in
    let xs = c.deref-pair-items.result.now in
    record { writes = λ config. rw (← c.deref-pair-items.ensures.value) (ends config _ _ _ _ (pairs_left xs l.pair-index) (pairs_part (pairs_in xs)) (l.invariant config) (λ path. pairs_end config.max_depth config.array_format xs l.pair-index path (omega arith))) }

pub write_pairs-loop-pair-preserved : goal.write_pairs-loop-pair-preserved
write_pairs-loop-pair-preserved g t c = λ config.
    let l = c.loop-pair in
    let xs = c.deref-pair-items.result.now in
    let x = c.pair-item.result in
    goes_on config _ _ _ _ (pairs_left xs l.pair-index) (pairs_part (pairs_in xs)) (l.invariant config) _ _ (under (scalar_text c.in-Some.key) (data_part (data_of x.1))) (pairs_left xs (l.pair-index + 1))
    (λ path. pairs_here config.max_depth config.array_format xs l.pair-index x path _ (omega arith) c.pair-item.is c.in-Some.ensures) (c.in_ok-write_under.ensures.writes config)

pub write_pairs-returns-in_err-write_under : goal.write_pairs-returns-in_err-write_under
write_pairs-returns-in_err-write_under g t c =
    let l = c.loop-pair in
    let xs = c.deref-pair-items.result.now in
    let x = c.pair-item.result in
    record {
      writes = λ config. rw (← c.deref-pair-items.ensures.value) (ends_early config _ _ _ _ (pairs_left xs l.pair-index) (pairs_part (pairs_in xs)) (l.invariant config) _ c.in_err-write_under.field-0.0 _ _ (under (scalar_text c.in-Some.key) (data_part (data_of x.1))) (pairs_left xs (l.pair-index + 1))
          c.from_residual.ensures.1 (λ path. pairs_here config.max_depth config.array_format xs l.pair-index x path _ (omega arith) c.pair-item.is c.in-Some.ensures) (c.in_err-write_under.ensures.writes config));
    }

pub write_pairs-returns-in_default : goal.write_pairs-returns-in_default
write_pairs-returns-in_default g t c =
    let l = c.loop-pair in
    let xs = c.deref-pair-items.result.now in
    record {
      writes = λ config. rw (← c.deref-pair-items.ensures.value) (ends_early config _ _ _ _ (pairs_left xs l.pair-index) (pairs_part (pairs_in xs)) (l.invariant config) (Err BadKey) BadKey _ l.walk (λ config path. failure bad_key)
          (pairs_left xs (l.pair-index + 1)) refl (λ path. pairs_here config.max_depth config.array_format xs l.pair-index c.pair-item.result path _ (omega arith) c.pair-item.is c.in_default.ensures)
          (λ path at. (refl, adds_nothing config.is_form _)));
    }
