use Rattle.std.proofs.Common.{ℕ, List, ◌<◌, ◌≡◌, Bool, true, false, ◌∙◌, sym, refl, arith}
use Rattle.std.proofs.lemmas.Bool.{false≢true}
use Rattle.std.proofs.lemmas.List.Elements.{All-weaker}
use Rattle.std.proofs.lemmas.Str.{IsUtf8-from_ascii, IsUtf8-from_is_utf8, is_utf8-from_IsUtf8}
use Rattle.std.proofs.lemmas.Str.Ascii.{IsAscii-from_all}
use Rattle.std.proofs.Math.Logic.{∥∥₁_elim}
use Rattle.std.specs.Str.{is_utf8}
use Rattle.qs_data.specs.write.State.{IsVisible}
use Rattle.qs_serde.proofs.calls.write.string_of.Goals as goal

pub from_utf8_unchecked-requires : goal.from_utf8_unchecked-requires
from_utf8_unchecked-requires c = IsUtf8-from_is_utf8 bytes (by (is_utf8 bytes) refl)
  where
    bytes : List ℕ
    bytes = c.args.text.items

    by : (b : Bool) → is_utf8 bytes ≡ b → is_utf8 bytes ≡ true
    by true is = is
    by false is = absurd (∥∥₁_elim c.requires (λ x y. absurd x)
        (λ visible. false≢true (sym is ∙ is_utf8-from_IsUtf8 bytes (IsUtf8-from_ascii bytes (IsAscii-from_all bytes (All-weaker IsVisible (λ (b : ℕ). b < 128) (λ b v. omega (arith, v.1)) bytes visible))))))
