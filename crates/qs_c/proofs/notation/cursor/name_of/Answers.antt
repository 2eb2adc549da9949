use Rattle.std.proofs.Common.{◌≡◌, ap, refl, sym, ◌∙◌, string_bytes}
use Rattle.std.specs.Str.{is_utf8}
use Rattle.std.proofs.lemmas.Str.{is_utf8-from_IsUtf8}
use Rattle.qs_c.specs.Found.{found}
use Rattle.qs_data.proofs.lemmas.read.Errors.{is_utf8_not}
use Rattle.qs_c.proofs.Found.{cond-false, cond-true}
use Rattle.qs_c.proofs.notation.cursor.name_of.Goals as goal

pub returns-in_ok-from_str-in-Ok : goal.returns-in_ok-from_str-in-Ok
returns-in_ok-from_str-in-Ok c rest =
    let b = c.args.bytes.now in
    let k = c.in-Ok.ensures.cases in
    let copied : string_bytes c.in_ok-from_str-in-Ok.field-0 ≡ b = c.in_ok-from_str-in-Ok.ensures.ok ∙ k.0 in
    cond-true (is_utf8 b) _ _ _ (is_utf8-from_IsUtf8 b k.1) (ap (λ n. found n rest) (sym copied))

pub returns-in-Err : goal.returns-in-Err
returns-in-Err c rest = cond-false (is_utf8 c.args.bytes.now) _ _ _ (is_utf8_not c.args.bytes.now c.in-Err.ensures.cases.0) refl
