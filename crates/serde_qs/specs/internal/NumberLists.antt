-- Lists of whole numbers come back from their text.
use Rattle.std.proofs.Common.{◌≡◌, ℕ, zero, suc, ◌==◌, ◌-◌, ◌^◌, ◌<◌, ◌≤◌, ◌≢◌, true, false, List, [], ◌∷◌, ◌++◌, append-nil, length, length-append, map, Option, Some, None, ℤ, pos, negsuc, neg_ℤ, ◌≤ℤ◌, ◌<ℤ◌, inl, inr, refl, sym, ap, ◌∙◌, subst, arith, eqb-true, eq-eqb, ne_eqb, pow_mono, pow_pos, not, ◌&&◌, Bool}
use Rattle.std.specs.Prelude.{nat_le}
use lib.Utf8.{scalar}
use Rattle.std.specs.Char.{IsScalar, encode_utf8}
use Rattle.std.specs.Fmt.{decimal, signed_decimal}
use Rattle.std.specs.List.{All, list_all}
use Rattle.std.specs.Option.{option_map, option_and_then}
use Rattle.std.specs.Str.{IsAscii}
use Rattle.std.proofs.lemmas.Bool.{cases_Bool, false≢true, leb-true}
use Rattle.std.proofs.lemmas.Fmt.{IsAscii-decimal, digits_decimal, decimal_nonempty}
use Rattle.std.proofs.lemmas.Int.{ints}
use Rattle.std.proofs.lemmas.List.{map-id}
use Rattle.std.proofs.lemmas.List.Elements.{All-nil, All-cons, All-head, All-tail, All-weaker}
use Rattle.std.proofs.lemmas.Str.{IsUtf8-from_ascii, chars-IsAscii}
use Rattle.qs_spec.specs.Data.{Data}
use Rattle.qs_spec.specs.Escape.{is_between}
use Rattle.qs_spec.specs.Fits.{fits_signed, fits_unsigned}
use Rattle.qs_spec.specs.Scalar.{unsigned_number, signed_number}
use Rattle.qs_spec.proofs.Booleans.{and_both}
use Rattle.qs_spec.proofs.Numerals.{AreDigits, numerals}
use Rattle.qs_spec.proofs.ScalarsBack.{unsigned_back, positive_back, negative_back}
use Rattle.serde_qs.specs.Items.{each_after, joined, pieces, items_in, list_in}
use Rattle.serde_qs.specs.internal.Pieces.{Differs, first_piece, last_piece, listed_pieces}
use Rattle.serde_qs.specs.Delimited.{IsPiece, NumberComesBack, NumbersComeBack, is_number_delimiter}
use Rattle.serde_qs.specs.internal.Booleans.{both_hold}
use Rattle.serde_qs.specs.internal.Ranges.{signed_bounds, unsigned_below}

module _ {A V : Type 0} (m : List ℕ → Option V) (show : A → List ℕ) (value : A → V) (delimiter : ℕ) where
  abbrev Back : A → Type 0
  Back x = NumberComesBack m show value delimiter x

  pieces_after : (x : A) (xs : List A) → IsScalar delimiter → All Back (x ∷ xs)
      → pieces delimiter (show x ++ each_after (encode_utf8 delimiter) (map show xs)) ≡ show x ∷ map show xs
  pieces_after x [] s h =
      let p = (All-head Back x [] h).piece in
      ap (pieces delimiter) (append-nil (show x)) ∙ last_piece delimiter (show x) p.is_text p.other
  pieces_after x (y ∷ ys) s h =
      let p = (All-head Back x (y ∷ ys) h).piece in
      first_piece delimiter (show x) (show y ++ each_after (encode_utf8 delimiter) (map show ys)) s p.is_text p.other
      ∙ ap (λ ps. show x ∷ ps) (pieces_after y ys s (All-tail Back x (y ∷ ys) h))

  items_back : (xs : List A) → All Back xs → items_in m (map show xs) ≡ Some (map value xs)
  items_back [] h = refl
  items_back (x ∷ xs) h =
      let first = (All-head Back x xs h).back in
      let rest = items_back xs (All-tail Back x xs h) in
      ap (λ r. option_and_then (λ y. option_map (λ ys. y ∷ ys) (items_in m (map show xs))) r) first ∙ ap (λ r. option_map (λ ys. value x ∷ ys) r) rest

  pub list_back : (xs : List A) → IsScalar delimiter → All Back xs → list_in m delimiter (Data.text (joined delimiter (map show xs))) ≡ Some (map value xs)
  list_back [] s h = refl
  list_back (x ∷ xs) s h =
      let p = (All-head Back x xs h).piece in
      let rest = each_after (encode_utf8 delimiter) (map show xs) in
      let some : 0 < length (show x ++ rest) = omega (arith, p.some, length-append (show x) rest) in
      listed_pieces m delimiter (show x ++ rest) (ne_eqb (length (show x ++ rest)) 0 (λ e. omega (arith, e, some)))
      ∙ ap (items_in m) (pieces_after x xs s h)
      ∙ items_back (x ∷ xs) h

digit_differs : (delimiter b : ℕ) → is_between 48 57 delimiter ≡ false → is_between 48 57 b ≡ true → Differs delimiter b
digit_differs delimiter b free digit = elim (cases_Bool (b == delimiter)) [
  | inl same ↦ absurd (false≢true (sym free ∙ ap (is_between 48 57) (sym (eqb-true b delimiter same)) ∙ digit))
  | inr other ↦ other
]

digits_differ : (delimiter : ℕ) (ds : List ℕ) → is_between 48 57 delimiter ≡ false → AreDigits ds → All (Differs delimiter) ds
digits_differ delimiter [] free h = All-nil (Differs delimiter)
digits_differ delimiter (b ∷ ds) free h =
    let both = and_both (is_between 48 57 b) (list_all (is_between 48 57) ds) h in
    All-cons (Differs delimiter) b ds (digit_differs delimiter b free both.0) (digits_differ delimiter ds free both.1)

ascii_piece : (delimiter : ℕ) (t : List ℕ) → IsAscii t → All (Differs delimiter) t → 0 < length t → IsPiece delimiter t
ascii_piece delimiter t a h l = record {
  is_text = IsUtf8-from_ascii t a;
  other = subst (All (Differs delimiter)) (sym (chars-IsAscii t a)) h;
  some = l;
}

decimal_piece : (delimiter n : ℕ) → is_between 48 57 delimiter ≡ false → n < 2 ^ 64 → IsPiece delimiter (decimal n)
decimal_piece delimiter n free l =
    ascii_piece delimiter (decimal n) (IsAscii-decimal n l) (digits_differ delimiter (decimal n) free (digits_decimal numerals n l)) (decimal_nonempty n l)

abbrev unsigned_of : Data → Option ℕ
unsigned_of (Data.unsigned n) = Some n
unsigned_of _ = None

unsigned_kept : (r : Option ℕ) → option_and_then unsigned_of (option_map Data.unsigned r) ≡ r
unsigned_kept None = refl
unsigned_kept (Some n) = refl

abbrev signed_of : Data → Option ℤ
signed_of (Data.signed z) = Some z
signed_of _ = None

signed_kept : (r : Option ℤ) → option_and_then signed_of (option_map Data.signed r) ≡ r
signed_kept None = refl
signed_kept (Some z) = refl

fits_64 : (bits n : ℕ) → bits ≤ 64 → n < 2 ^ bits → n < 2 ^ 64
fits_64 bits n le l = omega (arith, pow_mono le)

pub unsigned_item : (bits delimiter n : ℕ) → bits ≤ 64 → is_between 48 57 delimiter ≡ false → n < 2 ^ bits → NumberComesBack (unsigned_number bits) decimal (λ m. m) delimiter n
unsigned_item bits delimiter n le free l = record {
  back = sym (unsigned_kept (unsigned_number bits (decimal n))) ∙ ap (option_and_then unsigned_of) (unsigned_back bits n l (fits_64 bits n le l));
  piece = decimal_piece delimiter n free (fits_64 bits n le l);
}

pub unsigned_list : (bits delimiter : ℕ) (list : List ℕ) → bits ≤ 64 → IsScalar delimiter → is_between 48 57 delimiter ≡ false → All (λ n. n < 2 ^ bits) list
    → list_in (unsigned_number bits) delimiter (Data.text (joined delimiter (map decimal list))) ≡ Some list
unsigned_list bits delimiter list le s free h =
    list_back (unsigned_number bits) decimal (λ n. n) delimiter list s (All-weaker (λ n. n < 2 ^ bits) (NumberComesBack (unsigned_number bits) decimal (λ n. n) delimiter) (λ n l. unsigned_item bits delimiter n le free l) list h)
    ∙ ap Some (map-id list)

-- a whole number of these bits
abbrev IsWithin : ℕ → ℤ → Type 0
IsWithin bits z = (neg_ℤ (pos (2 ^ (bits - 1))) ≤ℤ z) × (z <ℤ pos (2 ^ (bits - 1)))

sign_differs : (delimiter : ℕ) → delimiter ≢ 45 → Differs delimiter 45
sign_differs delimiter free = elim (cases_Bool (45 == delimiter)) [
  | inl same ↦ absurd (free (sym (eqb-true 45 delimiter same)))
  | inr other ↦ other
]

half_64 : (bits : ℕ) → bits ≤ 64 → 2 ^ (bits - 1) ≤ 2 ^ 63
half_64 bits le = let less : bits - 1 ≤ 63 = omega arith in pow_mono less

signed_ascii : (ds : List ℕ) → IsAscii ds → IsAscii (45 ∷ ds)
signed_ascii ds h zero = omega arith
signed_ascii ds h (suc i) = h i

pub signed_item : (bits delimiter : ℕ) (z : ℤ) → bits ≤ 64 → is_between 48 57 delimiter ≡ false → delimiter ≢ 45 → IsWithin bits z → NumberComesBack (signed_number bits) signed_decimal (λ y. y) delimiter z
signed_item bits delimiter (pos n) le free sign l =
    let small = half_64 bits le in
    let lt : n < 2 ^ (bits - 1) = omega (arith, ints, l.1) in
    record {
      back = sym (signed_kept (signed_number bits (signed_decimal (pos n)))) ∙ ap (option_and_then signed_of) (positive_back bits n lt (omega (arith, small)));
      piece = decimal_piece delimiter n free (omega (arith, small));
    }
signed_item bits delimiter (negsuc n) le free sign l =
    let small = half_64 bits le in
    let lt : n < 2 ^ (bits - 1) = omega (arith, ints, l.0) in
    let long : suc n < 2 ^ 64 = omega (arith, small) in
    record {
      back = sym (signed_kept (signed_number bits (signed_decimal (negsuc n)))) ∙ ap (option_and_then signed_of) (negative_back bits n lt (omega (arith, small)));
      piece = ascii_piece delimiter (45 ∷ decimal (suc n)) (signed_ascii (decimal (suc n)) (IsAscii-decimal (suc n) long))
          (All-cons (Differs delimiter) 45 (decimal (suc n)) (sign_differs delimiter sign) (digits_differ delimiter (decimal (suc n)) free (digits_decimal numerals (suc n) long)))
          (omega arith);
    }

pub signed_list : (bits delimiter : ℕ) (list : List ℤ) → bits ≤ 64 → IsScalar delimiter → is_between 48 57 delimiter ≡ false → delimiter ≢ 45
    → All (λ z. (neg_ℤ (pos (2 ^ (bits - 1))) ≤ℤ z) × (z <ℤ pos (2 ^ (bits - 1)))) list
    → list_in (signed_number bits) delimiter (Data.text (joined delimiter (map signed_decimal list))) ≡ Some list
signed_list bits delimiter list le s free sign h =
    list_back (signed_number bits) signed_decimal (λ z. z) delimiter list s (All-weaker (IsWithin bits) (NumberComesBack (signed_number bits) signed_decimal (λ z. z) delimiter) (λ z l. signed_item bits delimiter z le free sign l) list h)
    ∙ ap Some (map-id list)

-- the same by tests

not_true : (b : Bool) → not b ≡ true → b ≡ false
not_true false h = refl
not_true true h = absurd (false≢true h)

unequal : (a b : ℕ) → not (a == b) ≡ true → a ≢ b
unequal a b h e = false≢true (sym (ap not (eq-eqb a b e)) ∙ h)

-- a character that is neither a digit nor `-`
pub record IsNumberDelimiter (delimiter : ℕ) : Type 0 where
  pub is_scalar : IsScalar delimiter
  pub no_digit : is_between 48 57 delimiter ≡ false
  pub no_sign : delimiter ≢ 45

pub number_delimiter : (delimiter : ℕ) → is_number_delimiter delimiter ≡ true → IsNumberDelimiter delimiter
number_delimiter delimiter h =
    let whole = both_hold (scalar delimiter) (not (is_between 48 57 delimiter) && not (delimiter == 45)) h in
    let free = both_hold (not (is_between 48 57 delimiter)) (not (delimiter == 45)) whole.1 in
    record { is_scalar = whole.0; no_digit = not_true (is_between 48 57 delimiter) free.0; no_sign = unequal delimiter 45 free.1 }

pub unsigned_items : (bits : ℕ) → nat_le bits 64 ≡ true → NumbersComeBack (fits_unsigned bits) (unsigned_number bits) decimal (λ n. n)
unsigned_items bits le delimiter n h l = unsigned_item bits delimiter n (leb-true bits 64 le) (number_delimiter delimiter h).no_digit (unsigned_below bits n l)

below : (k : ℕ) (z : ℤ) → 0 < k → z ≤ℤ pos (k - 1) → z <ℤ pos k
below k (pos n) some h = omega (arith, ints, some, h)
below k (negsuc n) some h = omega (arith, ints)

pub signed_items : (bits : ℕ) → nat_le bits 64 ≡ true → NumbersComeBack (fits_signed bits) (signed_number bits) signed_decimal (λ z. z)
signed_items bits le delimiter z h l =
    let free = number_delimiter delimiter h in
    let bounds = signed_bounds bits z l in
    signed_item bits delimiter z (leb-true bits 64 le) free.no_digit free.no_sign (bounds.0, below (2 ^ (bits - 1)) z (pow_pos (bits - 1)) bounds.1)
