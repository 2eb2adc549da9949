-- Pieces of a text between delimiters.
use Rattle.std.proofs.Common.{◌≡◌, ℕ, ◌==◌, length, false, List, [], ◌∷◌, ◌++◌, map, Option, refl, sym, ap, ◌∙◌, eq-eqb}
use Rattle.std.specs.Char.{IsScalar, encode_utf8}
use Rattle.std.specs.List.{All, slice_split}
use Rattle.std.specs.Str.{IsUtf8, chars, encode_utf8_all}
use Rattle.std.proofs.lemmas.Bool.{false≢true}
use Rattle.std.proofs.lemmas.List.Splits.{slice_split_at, slice_split_none}
use Rattle.std.proofs.lemmas.Str.{IsUtf8-encode, encodes-chars, chars-append}
use Rattle.qs_spec.proofs.ScalarsBack.{characters}
use Rattle.serde_qs.specs.Items.{pieces, items_in, listed_in}

-- the character is another than the delimiter
abbrev pub Differs : ℕ → ℕ → Type 0
Differs delimiter c = (c == delimiter) ≡ false

-- a text without the delimiter, in front of one, is the first piece
pub first_piece : (delimiter : ℕ) (t rest : List ℕ) → IsScalar delimiter → IsUtf8 t → All (Differs delimiter) (chars t)
    → pieces delimiter (t ++ (encode_utf8 delimiter ++ rest)) ≡ t ∷ pieces delimiter rest
unfolding pieces
first_piece delimiter t rest s u h =
    let after : chars (encode_utf8 delimiter ++ rest) ≡ delimiter ∷ chars rest = chars-append (encode_utf8 delimiter) rest (IsUtf8-encode delimiter s) ∙ ap (λ cs. cs ++ chars rest) (characters delimiter s) in
    let whole = chars-append t (encode_utf8 delimiter ++ rest) u ∙ ap (λ cs. chars t ++ cs) after in
    ap (λ cs. map encode_utf8_all (slice_split (λ c. c == delimiter) cs)) whole
    ∙ ap (λ ps. map encode_utf8_all ps) (slice_split_at (λ c. c == delimiter) (chars t) delimiter (chars rest) h (eq-eqb delimiter delimiter refl))
    ∙ ap (λ x. x ∷ map encode_utf8_all (slice_split (λ c. c == delimiter) (chars rest))) (encodes-chars t u)

-- a text without the delimiter is one piece
pub last_piece : (delimiter : ℕ) (t : List ℕ) → IsUtf8 t → All (Differs delimiter) (chars t) → pieces delimiter t ≡ t ∷ []
unfolding pieces
last_piece delimiter t u h = ap (λ ps. map encode_utf8_all ps) (slice_split_none (λ c. c == delimiter) (chars t) h) ∙ ap (λ x. x ∷ []) (encodes-chars t u)

-- a text that isn't empty is read by its pieces
pub listed_pieces : {A : Type 0} (m : List ℕ → Option A) (delimiter : ℕ) (t : List ℕ) → (length t == 0) ≡ false → listed_in m delimiter t ≡ items_in m (pieces delimiter t)
listed_pieces m delimiter [] e = absurd (false≢true (sym e))
listed_pieces m delimiter (b ∷ bs) e = refl
