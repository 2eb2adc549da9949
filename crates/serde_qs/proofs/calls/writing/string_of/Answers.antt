use Rattle.std.proofs.Common.{ℕ, ◌<◌, arith}
use Rattle.std.proofs.lemmas.List.Elements.{All-weaker}
use Rattle.std.proofs.lemmas.Str.{IsUtf8-from_ascii}
use Rattle.std.proofs.lemmas.Str.Ascii.{IsAscii-from_all}
use Rattle.qs_data.specs.write.State.{IsVisible}
use Rattle.serde_qs.proofs.calls.writing.string_of.Goals as goal

pub from_utf8_unchecked-requires : goal.from_utf8_unchecked-requires
from_utf8_unchecked-requires c =
    let bytes = c.args.text.items in
    IsUtf8-from_ascii bytes (IsAscii-from_all bytes (All-weaker IsVisible (λ (b : ℕ). b < 128) (λ b visible. omega (arith, visible.1)) bytes c.requires))
