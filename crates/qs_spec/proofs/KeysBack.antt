-- What is written of a key or of a value is read back.
use Rattle.std.proofs.Common.{◌≡◌, ℕ, ◌<◌, ◌≤◌, Bool, true, false, cond, not, ◌&&◌, ◌||◌, List, [], ◌∷◌, ◌++◌, refl, sym, ap, ap₂, ◌∙◌, arith, nat_le}
use Rattle.std.specs.List.{list_all, AllByRecursion}
use Rattle.std.specs.Str.{bytes_eq}
use Rattle.std.specs.Fmt.{decimal}
use Rattle.std.proofs.lemmas.Bool.{agree_below_at}
use Rattle.std.proofs.lemmas.Bool.Decides.{nat_tests}
use Rattle.std.proofs.lemmas.List.Folds.{list_all-append}
use Rattle.qs_spec.specs.Escape.{is_between, encoded_byte, encoded, decoded, has_escape}
use Rattle.qs_spec.specs.Segment.{number, is_index, segment_of, segment_text}
use Rattle.qs_spec.specs.Segment.Segment.{Int, Str}
use Rattle.qs_spec.specs.Leaf.{value_leaf, leaf_text}
use Rattle.qs_spec.specs.Leaf.Leaf.{Text}
use Rattle.qs_spec.specs.Scalar.{is_numeral, has_leading_zero}
use Rattle.qs_spec.specs.internal.Keys.{written_segment}
use Rattle.qs_spec.proofs.Booleans.{and_both}
use Rattle.qs_spec.proofs.Unescaped.{decoded-encoded}
use Rattle.qs_spec.proofs.VariantNames.{bytes_equal}
use Rattle.qs_spec.proofs.Numerals.{AreDigits, printed, digits_of_number, number_of_digits}

abbrev is_digit_byte : ℕ → Bool
is_digit_byte b = is_between 48 57 b

abbrev AreBytes : List ℕ → Type 0
AreBytes s = AllByRecursion (λ b. b < 256) s

-- of each byte: its encoding is digits where it is one
byte_digits_encoded : (is_form : Bool) (b : ℕ) → b < 256 → list_all is_digit_byte (encoded_byte is_form b) ≡ is_digit_byte b
byte_digits_encoded true b l = agree_below_at (λ b. list_all is_digit_byte (encoded_byte true b)) is_digit_byte 256 b refl l
byte_digits_encoded false b l = agree_below_at (λ b. list_all is_digit_byte (encoded_byte false b)) is_digit_byte 256 b refl l

-- of each byte: a digit is encoded as itself
abbrev is_itself : Bool → ℕ → Bool
is_itself is_form b = not (is_digit_byte b) || bytes_eq (encoded_byte is_form b) (b ∷ [])

itself : (is_form : Bool) (b : ℕ) → b < 256 → is_itself is_form b ≡ true
itself true b l = agree_below_at (is_itself true) (λ b. true) 256 b refl l
itself false b l = agree_below_at (is_itself false) (λ b. true) 256 b refl l

digit_kept : (is_form : Bool) (b : ℕ) → b < 256 → is_digit_byte b ≡ true → encoded_byte is_form b ≡ b ∷ []
digit_kept is_form b l e = bytes_equal (encoded_byte is_form b) (b ∷ []) (sym (ap (λ x. not x || bytes_eq (encoded_byte is_form b) (b ∷ [])) e) ∙ itself is_form b l)

digits_encoded : (is_form : Bool) (s : List ℕ) → AreBytes s → list_all is_digit_byte (encoded is_form s) ≡ list_all is_digit_byte s
digits_encoded is_form [] l = refl
digits_encoded is_form (b ∷ s) l = list_all-append is_digit_byte (encoded_byte is_form b) (encoded is_form s) ∙ ap₂ (λ x y. x && y) (byte_digits_encoded is_form b l.0) (digits_encoded is_form s l.1)

-- digits are written as themselves
pub encoded_digits : (is_form : Bool) (s : List ℕ) → AreBytes s → AreDigits s → encoded is_form s ≡ s
encoded_digits is_form [] l e = refl
encoded_digits is_form (b ∷ s) l e =
    let p = and_both (is_digit_byte b) (list_all is_digit_byte s) e in
    ap₂ (λ (x y : List ℕ). x ++ y) (digit_kept is_form b l.0 p.0) (encoded_digits is_form s l.1 p.1)

digits_of_index : (s : List ℕ) → is_index s ≡ true → AreDigits s
digits_of_index [] e = cc
digits_of_index (b ∷ s) e = (and_both (list_all is_digit_byte (b ∷ s)) (nat_le (number (b ∷ s)) 4294967295) e).0

no_index : (s : List ℕ) → list_all is_digit_byte s ≡ false → is_index s ≡ false
no_index [] e = refl
no_index (b ∷ s) e = ap (λ x. x && nat_le (number (b ∷ s)) 4294967295) e

index_encoded : (is_form : Bool) (s : List ℕ) → AreBytes s → is_index (encoded is_form s) ≡ is_index s
index_encoded is_form s l = by (list_all is_digit_byte s) refl
  where
    by : (b : Bool) → list_all is_digit_byte s ≡ b → is_index (encoded is_form s) ≡ is_index s
    by true e = ap is_index (encoded_digits is_form s l e)
    by false e = no_index (encoded is_form s) (digits_encoded is_form s l ∙ e) ∙ sym (no_index s e)

-- a segment is read as its number, or as itself
pub segment_back : (is_form : Bool) (s : List ℕ) → AreBytes s → segment_of (encoded is_form s) ≡ written_segment s
segment_back is_form s l = ap (λ b. cond b (Int (number (encoded is_form s))) (Str (decoded (encoded is_form s)))) (index_encoded is_form s l) ∙ by (is_index s) refl
  where
    by : (b : Bool) → is_index s ≡ b → cond b (Int (number (encoded is_form s))) (Str (decoded (encoded is_form s))) ≡ cond b (Int (number s)) (Str s)
    by true e = ap (λ t. Int (number t)) (encoded_digits is_form s l (digits_of_index s e))
    by false e = ap Str (decoded-encoded is_form s l)

pub index_below : (s : List ℕ) → is_index s ≡ true → number s ≤ 4294967295
index_below [] e = cc
index_below (b ∷ s) e = let h = and_both (list_all is_digit_byte (b ∷ s)) (nat_le (number (b ∷ s)) 4294967295) e in grind (arith, nat_tests)

pub numeral_of_index : (s : List ℕ) → is_index s ≡ true → is_numeral s ≡ true
numeral_of_index [] e = cc
numeral_of_index (b ∷ s) e = digits_of_index (b ∷ s) e

-- and its text is itself, unless it is an index with a leading zero
pub text_back : (is_form : Bool) (s : List ℕ) → AreBytes s → (is_index s && has_leading_zero s) ≡ false → segment_text (segment_of (encoded is_form s)) ≡ s
text_back is_form s l z = ap segment_text (segment_back is_form s l) ∙ by (is_index s) refl
  where
    by : (b : Bool) → is_index s ≡ b → segment_text (cond b (Int (number s)) (Str s)) ≡ s
    by true e = printed s (numeral_of_index s e) (sym (ap (λ x. x && has_leading_zero s) e) ∙ z) (omega (arith, index_below s e))
    by false e = refl

bytes_of_digits : (s : List ℕ) → AreDigits s → AreBytes s
bytes_of_digits [] e = tt
bytes_of_digits (b ∷ s) e = let h = and_both (is_digit_byte b) (list_all is_digit_byte s) e in (small b h.0, bytes_of_digits s h.1)
  where
    small : (b : ℕ) → is_digit_byte b ≡ true → b < 256
    small b e = let h = and_both (nat_le 48 b) (nat_le b 57) e in grind (arith, nat_tests)

pub index_of_numeral : (s : List ℕ) (n : ℕ) → is_numeral s ≡ true → number s ≡ n → n ≤ 4294967295 → is_index s ≡ true
index_of_numeral [] n e f l = cc
index_of_numeral (b ∷ s) n e f l = ap₂ (λ x y. x && y) e (below (number (b ∷ s)) (omega arith))
  where
    below : (m : ℕ) → m ≤ 4294967295 → nat_le m 4294967295 ≡ true
    below m l = grind (arith, nat_tests)

-- an index is read as itself
pub place_back : (is_form : Bool) (n : ℕ) → n ≤ 4294967295 → segment_of (encoded is_form (decimal n)) ≡ Int n
place_back is_form n l =
    let d = digits_of_number n (omega arith) in
    let m = number_of_digits n (omega arith) in
    let i = index_of_numeral (decimal n) n d m l in
    segment_back is_form (decimal n) (bytes_of_digits (decimal n) (digits_of_index (decimal n) i)) ∙ ap (λ b. cond b (Int (number (decimal n))) (Str (decimal n))) i ∙ ap Int m

-- of each byte: its encoding begins with a byte
byte_encoded_some : (is_form : Bool) (b : ℕ) → b < 256 → bytes_eq (encoded_byte is_form b) [] ≡ false
byte_encoded_some true b l = agree_below_at (λ b. bytes_eq (encoded_byte true b) []) (λ b. false) 256 b refl l
byte_encoded_some false b l = agree_below_at (λ b. bytes_eq (encoded_byte false b) []) (λ b. false) 256 b refl l

some_leaf : (raw rest : List ℕ) → bytes_eq raw [] ≡ false → value_leaf (raw ++ rest) ≡ Text (decoded (raw ++ rest)) (has_escape (raw ++ rest))
some_leaf [] rest e = cc
some_leaf (b ∷ raw) rest e = refl

-- bytes that are a value are read as themselves
pub leaf_back : (is_form : Bool) (b : ℕ) (s : List ℕ) → AreBytes (b ∷ s) → value_leaf (encoded is_form (b ∷ s)) ≡ Text (b ∷ s) (has_escape (encoded is_form (b ∷ s)))
leaf_back is_form b s l = some_leaf (encoded_byte is_form b) (encoded is_form s) (byte_encoded_some is_form b l.0) ∙ ap (λ t. Text t (has_escape (encoded is_form (b ∷ s)))) (decoded-encoded is_form (b ∷ s) l)

pub leaf_text_back : (is_form : Bool) (s : List ℕ) → AreBytes s → leaf_text (value_leaf (encoded is_form s)) ≡ s
leaf_text_back is_form [] l = refl
leaf_text_back is_form (b ∷ s) l = ap leaf_text (leaf_back is_form b s l)
