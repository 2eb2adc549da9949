-- Names that pass the test are UTF-8.
use Rattle.std.proofs.Common.{ap₂, ◌∙◌, refl}
use Rattle.std.proofs.lemmas.Slice.Eq.{bytes_eq-Decides}
use Rattle.std.proofs.lemmas.Str.{is_utf8-from_IsUtf8}
use Rattle.std.specs.Prelude.{◌≡◌, ℕ, true, List, [], ◌∷◌, ◌++◌}
use Rattle.std.specs.Str.{bytes_eq, encode_utf8_all, is_utf8}
use lib.Utf8.{encode, scalars}
use Rattle.serde_qs.specs.Names.{all_encoded, encoded, front, is_text}
use Rattle.serde_qs.specs.internal.Booleans.{both_hold}

same_bytes : (c : ℕ) → encode c ≡ encoded c
unfolding encode
same_bytes c = refl

all_same : (cs : List ℕ) → encode_utf8_all cs ≡ all_encoded cs
all_same [] = refl
all_same (c ∷ cs) = ap₂ (λ x y. x ++ y) (same_bytes c) (all_same cs)

pub text_is_utf8 : (bs : List ℕ) → is_text bs ≡ true → is_utf8 bs ≡ true
text_is_utf8 bs h =
    let cs = (front bs).2 in
    let parts = both_hold (scalars cs) (bytes_eq (all_encoded cs) bs) h in
    is_utf8-from_IsUtf8 bs (cs, (parts.0, all_same cs ∙ (bytes_eq-Decides (all_encoded cs) bs).0 parts.1))
