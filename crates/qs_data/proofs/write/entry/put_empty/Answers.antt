use Rattle.qs_data.proofs.Common.{◌≡◌, ◌∙◌, refl, length, [], Some, arith, or-false, or-true, one}
use Rattle.qs_data.proofs.lemmas.write.Wrote.{writes_exit}
use Rattle.qs_data.proofs.lemmas.write.Visible.{equals_visible}
use Rattle.qs_data.proofs.lemmas.write.Entry.{at_top, adds_one, entry_empty, no_key, io_stops}
use Rattle.qs_data.proofs.write.entry.put_empty.Goals as goal

pub returns-in_err-put_all-clause-writes : goal.returns-in_err-put_all-clause-writes
returns-in_err-put_all-clause-writes g c =
    let empty : length c.args.walk.now.text ≡ 0 = omega (arith, c.len.ensures.value, c.if-len-ne0.false) in
    let part = c.in_err-put_all.ensures.part in
    λ config. writes_exit _ c.in_err-put_all.field-0.0 config _ _ c.args.walk.now _ (λ config path. one path (Some [])) c.from_residual.ensures.1 (λ path at.
    io_stops config _ _ path (Some []) _ _ part.0 (entry_empty config.is_form _ path (at_top config.is_form path c.args.walk.now at.text empty)) (part.1, part.2, part.3) equals_visible
    (c.in_err-put_all.ensures.fails ∙ or-true _) c.put_all.ensures.same_writer)

pub returns-clause-writes : goal.returns-clause-writes
returns-clause-writes g c = λ config path at.
    let empty : length c.args.walk.now.text ≡ 0 = omega (arith, c.len.ensures.value, c.if-len-ne0.false) in
    let top = at_top config.is_form path c.args.walk.now at.text empty in (
      refl,
      adds_one config.is_form _ _ path (Some []) _ (entry_empty config.is_form _ path top)
          c.in_ok-put_all.ensures.all equals_visible (no_key path c.args.stream.now.started top) (c.in_ok-put_all.ensures.fails ∙ or-false _) c.put_all.ensures.same_writer,
      record { settings = at.settings; depth = at.depth; text = at.text; visible = at.visible },
    )
