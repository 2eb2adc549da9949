use Rattle.qs_data.proofs.Common.{◌∙◌, ◌++◌, [], ap, sym, refl, take, append-nil, or-false, or-true, Appends-nil, Appends-trans, ◌||◌, option_map, encoded, one, OutOfMemory, scalar_text}
use Rattle.qs_data.proofs.lemmas.write.Wrote.{writes_exit, some_none}
use Rattle.qs_data.proofs.lemmas.write.Puts.{put_middle}
use Rattle.qs_data.proofs.lemmas.write.Entry.{entry_shown, has_key_is, at_back, adds_one, io_stops}
use Rattle.qs_data.proofs.write.entry.put.Goals as goal

pub returns-in_err-rest-clause-writes : goal.returns-in_err-rest-clause-writes
returns-in_err-rest-clause-writes g c = λ config.
    writes_exit _ OutOfMemory config _ _ c.args.walk.now _ (λ config path. one path (option_map scalar_text c.args.value)) c.from_residual.ensures.1 (λ path at. some_none config.is_form _ _)

pub returns-in_err-put_all-clause-writes : goal.returns-in_err-put_all-clause-writes
returns-in_err-put_all-clause-writes g c =
    let value = option_map scalar_text c.args.value in
    let shown = c.after.result.now in
    let rest = encoded c.get_form-is_form.result c.in_ok-rest.rest.now in
    let old = g.S.Sink.taken c.args.stream.now.sink in
    let part = c.in_err-put_all.ensures.part in
    λ config. writes_exit _ c.in_err-put_all.field-0.0 config _ _ c.args.walk.now _ (λ config path. one path value) c.from_residual-in_err-put_all.ensures.1 (λ path at.
    let entry = entry_shown config _ _ path value c.args.walk.now c.append_value.new.out rest shown _ _ at c.get_form-is_form.ensures c.in_ok-rest.ensures.ok c.in_ok-rest.ensures.kept
    c.len-len.ensures.value c.skipped-start.ensures.skips c.skipped-start.ensures.within c.after.ensures c.in_ok-rest.ensures.visible in
    let front = put_middle [] shown rest (shown ++ rest) part.1 old old (g.S.Sink.taken c.put_all.new.sink) refl (Appends-nil old) part.2 part.3 in
    io_stops config _ _ path value (shown ++ rest) _ part.0 entry.0 front entry.1 (c.in_err-put_all.ensures.fails ∙ or-true _) c.put_all.ensures.same_writer)

pub returns-in_err-put_encoded-clause-writes : goal.returns-in_err-put_encoded-clause-writes
returns-in_err-put_encoded-clause-writes g c =
    let value = option_map scalar_text c.args.value in
    let shown = c.after.result.now in
    let rest = encoded c.get_form-is_form.result c.in_ok-rest.rest.now in
    let taken = g.S.Sink.taken in
    let part = c.in_err-put_encoded.ensures.part in
    λ config. writes_exit _ c.in_err-put_encoded.field-0.0 config _ _ c.args.walk.now _ (λ config path. one path value) c.from_residual-in_err-put_encoded.ensures.1 (λ path at.
    let entry = entry_shown config _ _ path value c.args.walk.now c.append_value.new.out rest shown _ _ at c.get_form-is_form.ensures c.in_ok-rest.ensures.ok c.in_ok-rest.ensures.kept
    c.len-len.ensures.value c.skipped-start.ensures.skips c.skipped-start.ensures.within c.after.ensures c.in_ok-rest.ensures.visible in
    let front = put_middle shown rest [] (shown ++ rest) part.1 (taken c.args.stream.now.sink) (taken c.put_all.new.sink) (taken c.put_encoded.new.sink)
    (ap (λ t. shown ++ t) (sym (append-nil rest))) c.in_ok-put_all.ensures.all part.2 part.3 in
    io_stops config _ _ path value (shown ++ rest) _ part.0 entry.0 front entry.1 (c.in_err-put_encoded.ensures.fails ∙ or-true _) (c.put_encoded.ensures.same_writer ∙ c.put_all.ensures.same_writer))

pub returns-clause-writes : goal.returns-clause-writes
returns-clause-writes g c = λ config path at.
    let value = option_map scalar_text c.args.value in
    let shown = c.after.result.now in
    let rest = encoded c.get_form-is_form.result c.in_ok-rest.rest.now in
    let taken = g.S.Sink.taken in
    let entry = entry_shown config _ _ path value c.args.walk.now c.append_value.new.out rest shown _ _ at c.get_form-is_form.ensures c.in_ok-rest.ensures.ok c.in_ok-rest.ensures.kept
    c.len-len.ensures.value c.skipped-start.ensures.skips c.skipped-start.ensures.within c.after.ensures c.in_ok-rest.ensures.visible in (
      refl,
      adds_one config.is_form _ _ path value (shown ++ rest) entry.0
          (Appends-trans (taken c.args.stream.now.sink) (taken c.put_all.new.sink) (taken c.put_encoded.new.sink) shown rest c.in_ok-put_all.ensures.all c.in_ok-put_encoded.ensures.all) entry.1
          (ap (λ b. c.args.stream.now.started || b) (has_key_is config.is_form path c.args.walk.now _ at.text c.len-len.ensures.value))
          (c.in_ok-put_encoded.ensures.fails ∙ or-false _ ∙ c.in_ok-put_all.ensures.fails ∙ or-false _) (c.put_encoded.ensures.same_writer ∙ c.put_all.ensures.same_writer),
      at_back config path c.args.walk.now _ at refl refl (c.truncate.ensures ∙ ap (λ n. take n c.append_value.new.out) c.len-len.ensures.value ∙ c.in_ok-rest.ensures.kept),
    )
