use Rattle.qs_data.proofs.Common.{◌≡◌, ◌∙◌, ap, ap₂, sym, subst, ◌++◌, append_assoc, take-append-drop, flat_map-append, Appends-trans, or-false, Appends, encoded, encoded_byte}
use Rattle.qs_data.proofs.lemmas.write.Puts.{put_middle, encoded_parts, exit_part}
use Rattle.qs_data.proofs.write.sink.put_encoded.Goals as goal

pub loop-rest-preserved : goal.loop-rest-preserved
loop-rest-preserved g c =
    let put = c.loop-rest.invariant.put in
    let rest = c.loop-rest.rest.now in
    let piece = c.split_at.result.0.now in
    let tail = c.split_at.result.1.now in
    let old = g.S.Sink.taken c.args.sink.now in
    let now = g.S.Sink.taken c.loop-rest.sink in
    let new = g.S.Sink.taken c.put_piece.new.sink in
    let parts : rest ≡ piece ++ tail = sym (take-append-drop c.min.result rest) ∙ ap₂ (λ x y. x ++ y) (sym c.split_at.ensures.front) (sym c.split_at.ensures.back) in
    record {
      put = (
        put.0 ++ piece,
        put.1 ∙ ap (λ t. put.0 ++ t) parts ∙ sym (append_assoc put.0 piece tail),
        subst (Appends old new) (sym (flat_map-append (encoded_byte c.args.is_form) put.0 piece)) (Appends-trans old now new _ _ put.2 c.in_ok-put_piece.ensures.all),
      );
      fine = c.in_ok-put_piece.ensures.fails ∙ or-false _ ∙ c.loop-rest.invariant.fine;
      same_writer = c.put_piece.ensures.same_writer ∙ c.loop-rest.invariant.same_writer;
    }

pub returns-in_err-put_piece-clause-part : goal.returns-in_err-put_piece-clause-part
returns-in_err-put_piece-clause-part g c =
    let put = c.loop-rest.invariant.put in
    let rest = c.loop-rest.rest.now in
    let piece = c.split_at.result.0.now in
    let tail = c.split_at.result.1.now in
    let is_form = c.args.is_form in
    let parts : rest ≡ piece ++ tail = sym (take-append-drop c.min.result rest) ∙ ap₂ (λ x y. x ++ y) (sym c.split_at.ensures.front) (sym c.split_at.ensures.back) in
    let whole = ap (encoded is_form) (put.1 ∙ ap (λ t. put.0 ++ t) parts) ∙ encoded_parts is_form put.0 piece tail in
    let part = c.in_err-put_piece.ensures.part in
    let all = put_middle (encoded is_form put.0) (encoded is_form piece) (encoded is_form tail) (encoded is_form c.args.bytes.now) part.1
    (g.S.Sink.taken c.args.sink.now) (g.S.Sink.taken c.loop-rest.sink) (g.S.Sink.taken c.put_piece.new.sink) whole put.2 part.2 part.3 in
    exit_part c.from_residual.result c.in_err-put_piece.field-0.0 _ c.from_residual.ensures.1 (part.0, all.0, all.1, all.2)
