-- What std reads as a number is what the definitions read.
use Rattle.qs_data.proofs.Common.{◌≡◌, ℕ, zero, suc, length, get_or, slice_index, ◌-◌, ◌^◌, ◌<◌, ◌≤◌, ◌⊎◌, inl, inr, Bool, true, false, cond, decimal, List, [], ◌∷◌, Some, None, ℤ, pos, neg_ℤ, ◌≤ℤ◌, ◌<ℤ◌, w64, refl, sym, ap, ◌∙◌, subst, arith, rules, eqb, IsAscii, is_utf8, option_map, IsAscii-decimal, decimal_is_IsNumeral, cases_Bool, false≢true, nat_tests, IsUtf8-from_ascii, is_utf8-from_IsUtf8, bits_of, number, is_numeral, numeral_up_to, unsigned_number, signed_number}
use Rattle.std.specs.Str.Parse.{IsNumeral, digits_value, signed_digits_value, starts_with_minus, without_leading_plus, without_leading_sign}
use Rattle.std.specs.Int.RustNames.{FitsSigned}
use Rattle.std.specs.Int.{Width as IntWidth, w128}
use Rattle.std.proofs.lemmas.Int.{ints}
use Rattle.qs_data.specs.declared.shape.width.Width.{Width}
use Rattle.qs_data.specs.declared.shape.width.Width.TheVariants.{Bits64}
use Rattle.std.proofs.lemmas.Str.Ascii.{IsAscii-nil}
use Rattle.qs_spec.proofs.Numerals.{AreDigits, numerals}

-- a numeral by the test is one by std
pub numeral_holds : (ds : List ℕ) → is_numeral ds ≡ true → IsNumeral 10 ds
numeral_holds [] h = absurd (search rules)
numeral_holds (d ∷ ds) h = (omega arith, numerals.to (d ∷ ds) h)

pub numeral_is : (ds : List ℕ) → IsNumeral 10 ds → is_numeral ds ≡ true
numeral_is [] h = absurd (omega (arith, h.0))
numeral_is (d ∷ ds) h = numerals.from (d ∷ ds) h.1

value_is : (ds : List ℕ) → IsNumeral 10 ds → number ds ≡ digits_value 10 ds
value_is ds h = numerals.same ds h.1

pub numeral_within : (most : ℕ) (ds : List ℕ) → IsNumeral 10 ds → digits_value 10 ds ≤ most → numeral_up_to most ds ≡ Some (digits_value 10 ds)
numeral_within most ds h le = let e = numeral_is ds h in let v = value_is ds h in grind (arith, nat_tests)

pub numeral_past : (most : ℕ) (ds : List ℕ) → IsNumeral 10 ds → most < digits_value 10 ds → numeral_up_to most ds ≡ None
numeral_past most ds h lt = let e = numeral_is ds h in let v = value_is ds h in grind (arith, nat_tests)

pub unsigned_is : (bits : ℕ) (bs : List ℕ) → unsigned_number bits bs ≡ numeral_up_to (2 ^ bits - 1) (without_leading_plus bs)
unsigned_is bits [] = refl
unsigned_is bits (b ∷ bs) = elim (cases_Bool (eqb b 43)) [
  | inl plus ↦ rw plus
  | inr plain ↦ rw plain
]

-- digits are text
digit_ascii : (d : ℕ) (ds : List ℕ) → AreDigits (d ∷ ds) → d < 128
digit_ascii d ds h = grind (arith, nat_tests, h)

digits_left : (d : ℕ) (ds : List ℕ) → AreDigits (d ∷ ds) → AreDigits ds
digits_left d ds h = grind (arith, nat_tests, h)

digits_ascii : (ds : List ℕ) → AreDigits ds → IsAscii ds
digits_ascii [] h i = omega arith
digits_ascii (d ∷ ds) h i = by_place (digit_ascii d ds h) (digits_ascii ds (digits_left d ds h)) i where
  by_place : d < 128 → IsAscii ds → (j : ℕ) → slice_index (d ∷ ds) j < 128
  by_place lt rest zero = lt
  by_place lt rest (suc j) = rest j

numeral_digits : (ds : List ℕ) → is_numeral ds ≡ true → AreDigits ds
numeral_digits [] h = absurd (search rules)
numeral_digits (d ∷ ds) h = h

pub ascii_text : (bs : List ℕ) → IsAscii bs → is_utf8 bs ≡ true
ascii_text bs h = is_utf8-from_IsUtf8 bs (IsUtf8-from_ascii bs h)

-- and so they are after a sign
sign_text : (b : ℕ) (ds : List ℕ) → b < 128 → is_numeral ds ≡ true → is_utf8 (b ∷ ds) ≡ true
sign_text b ds lt h = ascii_text (b ∷ ds) by_place where
  by_place : IsAscii (b ∷ ds)
  by_place zero = lt
  by_place (suc i) = digits_ascii ds (numeral_digits ds h) i

plain_text : (ds : List ℕ) → is_numeral ds ≡ true → is_utf8 ds ≡ true
plain_text ds h = ascii_text ds (digits_ascii ds (numeral_digits ds h))

plus_text : (bs : List ℕ) → is_numeral (without_leading_plus bs) ≡ true → is_utf8 bs ≡ true
plus_text [] h = absurd (search rules)
plus_text (b ∷ bs) h = elim (cases_Bool (eqb b 43)) [
  | inl plus ↦ sign_text b bs (grind (arith, nat_tests)) (rw plus at h)
  | inr plain ↦ plain_text (b ∷ bs) (rw plain at h)
]

-- an unsigned number, by what std reads
pub unsigned_ok : (bits : ℕ) (bs : List ℕ) (n : ℕ) → IsNumeral 10 (without_leading_plus bs) → n ≡ digits_value 10 (without_leading_plus bs) → n ≤ 2 ^ bits - 1 → unsigned_number bits bs ≡ Some n
unsigned_ok bits bs n h is le = unsigned_is bits bs ∙ numeral_within (2 ^ bits - 1) (without_leading_plus bs) h (subst (λ m. m ≤ 2 ^ bits - 1) is le) ∙ ap Some (sym is)

pub unsigned_past : (bits : ℕ) (bs : List ℕ) (n : ℕ) → IsNumeral 10 (without_leading_plus bs) → n ≡ digits_value 10 (without_leading_plus bs) → 2 ^ bits - 1 < n → unsigned_number bits bs ≡ None
unsigned_past bits bs n h is lt = unsigned_is bits bs ∙ numeral_past (2 ^ bits - 1) (without_leading_plus bs) h (subst (λ m. 2 ^ bits - 1 < m) is lt)

pub unsigned_bad : (bits wide : ℕ) (bs : List ℕ) → ¬ (IsNumeral 10 (without_leading_plus bs) × (digits_value 10 (without_leading_plus bs) < 2 ^ wide)) → 2 ^ bits ≤ 2 ^ wide → 0 < 2 ^ wide → unsigned_number bits bs ≡ None
unsigned_bad bits wide bs h le some = elim (cases_Bool (is_numeral (without_leading_plus bs))) [
  | inl is ↦ let v = digits_value 10 (without_leading_plus bs) in
      let held = numeral_holds (without_leading_plus bs) is in
      let large : v < 2 ^ wide → ⊥ = λ lt. h (held, lt) in
      unsigned_is bits bs ∙ numeral_past (2 ^ bits - 1) (without_leading_plus bs) held (omega arith)
  | inr not ↦ unsigned_is bits bs ∙ rw not
]

pub unsigned_err : (bits : ℕ) (bs : List ℕ) → ¬ (IsNumeral 10 (without_leading_plus bs) × (digits_value 10 (without_leading_plus bs) < 2 ^ 64)) → 2 ^ bits ≤ 2 ^ 64 → unsigned_number bits bs ≡ None
unsigned_err bits bs h le = unsigned_bad bits 64 bs h le (omega arith)

pub unsigned_text : (bits : ℕ) (bs : List ℕ) → is_utf8 bs ≡ false → unsigned_number bits bs ≡ None
unsigned_text bits bs h = elim (cases_Bool (is_numeral (without_leading_plus bs))) [
  | inl is ↦ let same = plus_text bs is in absurd (false≢true (sym h ∙ same))
  | inr not ↦ unsigned_is bits bs ∙ rw not
]

pub width_fits : (w : Width) → 2 ^ bits_of w ≤ 2 ^ 64
width_fits Bits64 = omega arith
width_fits w = omega arith

-- a signed number by its sign
signed_is : (bits : ℕ) (bs : List ℕ) → signed_number bits bs
    ≡ cond (starts_with_minus bs) (option_map (λ n. neg_ℤ (pos n)) (numeral_up_to (2 ^ (bits - 1)) (without_leading_sign bs))) (option_map pos (numeral_up_to (2 ^ (bits - 1) - 1) (without_leading_sign bs)))
signed_is bits [] = refl
signed_is bits (b ∷ bs) = elim (cases_Bool (eqb b 45)) [
  | inl minus ↦ rw minus
  | inr other ↦ elim (cases_Bool (eqb b 43)) [
    | inl plus ↦ rw (other, plus)
    | inr plain ↦ rw (other, plain)
  ]
]

minus_is : (bits : ℕ) (bs : List ℕ) → starts_with_minus bs ≡ true → signed_number bits bs ≡ option_map (λ n. neg_ℤ (pos n)) (numeral_up_to (2 ^ (bits - 1)) (without_leading_sign bs))
minus_is bits bs h = signed_is bits bs ∙ rw h

plain_is : (bits : ℕ) (bs : List ℕ) → starts_with_minus bs ≡ false → signed_number bits bs ≡ option_map pos (numeral_up_to (2 ^ (bits - 1) - 1) (without_leading_sign bs))
plain_is bits bs h = signed_is bits bs ∙ rw h

abbrev size_of : List ℕ → ℕ
size_of bs = digits_value 10 (without_leading_sign bs)

minus_value : (bs : List ℕ) → starts_with_minus bs ≡ true → signed_digits_value 10 bs ≡ neg_ℤ (pos (size_of bs))
minus_value bs h = rw h

plain_value : (bs : List ℕ) → starts_with_minus bs ≡ false → signed_digits_value 10 bs ≡ pos (size_of bs)
plain_value bs h = rw h

pub signed_ok : (bits : ℕ) (bs : List ℕ) (z : ℤ) → IsNumeral 10 (without_leading_sign bs) → z ≡ signed_digits_value 10 bs → neg_ℤ (pos (2 ^ (bits - 1))) ≤ℤ z → z ≤ℤ pos (2 ^ (bits - 1) - 1) → signed_number bits bs ≡ Some z
signed_ok bits bs z h is low high = elim (cases_Bool (starts_with_minus bs)) [
  | inl minus ↦ let e = is ∙ minus_value bs minus in
      let le : size_of bs ≤ 2 ^ (bits - 1) = omega (arith, ints) in
      minus_is bits bs minus ∙ ap (option_map (λ n. neg_ℤ (pos n))) (numeral_within (2 ^ (bits - 1)) (without_leading_sign bs) h le) ∙ ap Some (sym e)
  | inr plain ↦ let e = is ∙ plain_value bs plain in
      let le : size_of bs ≤ 2 ^ (bits - 1) - 1 = omega (arith, ints) in
      plain_is bits bs plain ∙ ap (option_map pos) (numeral_within (2 ^ (bits - 1) - 1) (without_leading_sign bs) h le) ∙ ap Some (sym e)
]

pub signed_past : (bits : ℕ) (bs : List ℕ) (z : ℤ) → IsNumeral 10 (without_leading_sign bs) → z ≡ signed_digits_value 10 bs → (z <ℤ neg_ℤ (pos (2 ^ (bits - 1)))) ⊎ (pos (2 ^ (bits - 1) - 1) <ℤ z) → signed_number bits bs ≡ None
signed_past bits bs z h is out = elim (cases_Bool (starts_with_minus bs)) [
  | inl minus ↦ let e = is ∙ minus_value bs minus in
      let lt : 2 ^ (bits - 1) < size_of bs = omega (arith, ints) in
      minus_is bits bs minus ∙ ap (option_map (λ n. neg_ℤ (pos n))) (numeral_past (2 ^ (bits - 1)) (without_leading_sign bs) h lt)
  | inr plain ↦ let e = is ∙ plain_value bs plain in
      let lt : 2 ^ (bits - 1) - 1 < size_of bs = omega (arith, ints) in
      plain_is bits bs plain ∙ ap (option_map pos) (numeral_past (2 ^ (bits - 1) - 1) (without_leading_sign bs) h lt)
]

same_either : {A : Type 0} (b : Bool) (x : A) → cond b x x ≡ x
same_either true x = refl
same_either false x = refl

sign_is_text : (bs : List ℕ) → is_numeral (without_leading_sign bs) ≡ true → is_utf8 bs ≡ true
sign_is_text [] h = absurd (search rules)
sign_is_text (b ∷ bs) h = elim (cases_Bool (eqb b 45)) [
  | inl minus ↦ sign_text b bs (grind (arith, nat_tests)) (rw minus at h)
  | inr other ↦ plus_text (b ∷ bs) (rw other at h)
]

pub signed_text : (bits : ℕ) (bs : List ℕ) → is_utf8 bs ≡ false → signed_number bits bs ≡ None
signed_text bits bs h = elim (cases_Bool (is_numeral (without_leading_sign bs))) [
  | inl is ↦ absurd (false≢true (sym h ∙ sign_is_text bs is))
  | inr not ↦ signed_is bits bs ∙ rw not (same_either (starts_with_minus bs) None)
]

-- a width of signed numbers holds those from -half up to half, without half itself
pub record HoldsHalf (w : IntWidth) (half : ℕ) : Type 0 where
  pub minus : (n : ℕ) → n ≤ half → FitsSigned w (neg_ℤ (pos n))
  pub plain : (n : ℕ) → n < half → FitsSigned w (pos n)

pub signed_bad : (w : IntWidth) (half bits : ℕ) (bs : List ℕ) → HoldsHalf w half → ¬ (IsNumeral 10 (without_leading_sign bs) × FitsSigned w (signed_digits_value 10 bs)) → 2 ^ (bits - 1) ≤ half → 0 < half → signed_number bits bs ≡ None
signed_bad w half bits bs fits h le some = elim (cases_Bool (is_numeral (without_leading_sign bs))) [
  | inl is ↦
      let held = numeral_holds (without_leading_sign bs) is in
      elim (cases_Bool (starts_with_minus bs)) [
        | inl minus ↦
            let large : size_of bs ≤ half → ⊥ = λ small. h (held, rw (minus_value bs minus) (fits.minus (size_of bs) small)) in
            minus_is bits bs minus ∙ ap (option_map (λ n. neg_ℤ (pos n))) (numeral_past (2 ^ (bits - 1)) (without_leading_sign bs) held (omega arith))
        | inr plain ↦
            let large : size_of bs < half → ⊥ = λ small. h (held, rw (plain_value bs plain) (fits.plain (size_of bs) small)) in
            plain_is bits bs plain ∙ ap (option_map pos) (numeral_past (2 ^ (bits - 1) - 1) (without_leading_sign bs) held (omega arith))
      ]
  | inr not ↦ signed_is bits bs ∙ rw not (same_either (starts_with_minus bs) None)
]

minus_64 : (n : ℕ) → n ≤ 2 ^ 63 → FitsSigned w64 (neg_ℤ (pos n))
minus_64 zero h = record { sfits = omega arith }
minus_64 (suc n) h = record { sfits = omega arith }

minus_128 : (n : ℕ) → n ≤ 2 ^ 127 → FitsSigned w128 (neg_ℤ (pos n))
minus_128 zero h = record { sfits = omega arith }
minus_128 (suc n) h = record { sfits = omega arith }

half_64 : HoldsHalf w64 (2 ^ 63)
half_64 = record { minus = minus_64; plain = λ n h. record { sfits = h } }

pub half_128 : HoldsHalf w128 (2 ^ 127)
half_128 = record { minus = minus_128; plain = λ n h. record { sfits = h } }

pub signed_err : (bits : ℕ) (bs : List ℕ) → ¬ (IsNumeral 10 (without_leading_sign bs) × FitsSigned w64 (signed_digits_value 10 bs)) → 2 ^ (bits - 1) ≤ 2 ^ 63 → signed_number bits bs ≡ None
signed_err bits bs h le = signed_bad w64 (2 ^ 63) bits bs half_64 h le (omega arith)

pub signed_width_fits : (w : Width) → 2 ^ (bits_of w - 1) ≤ 2 ^ 63
signed_width_fits Bits64 = omega arith
signed_width_fits w = omega arith

-- a number's digits are text
pub decimal_text : (n : ℕ) → n < 2 ^ 32 → is_utf8 (decimal n) ≡ true
decimal_text n lt = ascii_text (decimal n) (IsAscii-decimal n (omega arith))

pub empty_text : is_utf8 [] ≡ true
empty_text = ascii_text [] IsAscii-nil

-- and the first is a digit
first_digit : (ds : List ℕ) → AreDigits ds → 0 < length ds → (48 ≤ get_or ds 0 0) × (get_or ds 0 0 ≤ 57)
first_digit [] h some = absurd (omega (arith, some))
first_digit (d ∷ ds) h some = (grind (arith, nat_tests, h), grind (arith, nat_tests, h))

pub decimal_begins : (n : ℕ) (ds : List ℕ) → n < 2 ^ 32 → decimal n ≡ ds → (0 < length ds) × (48 ≤ get_or ds 0 0) × (get_or ds 0 0 ≤ 57)
decimal_begins n ds lt is =
    let numeral : IsNumeral 10 ds = subst (IsNumeral 10) is (decimal_is_IsNumeral n (omega arith)).0 in
    let digit = first_digit ds (numerals.from ds numeral.1) numeral.0 in
    (numeral.0, digit.0, digit.1)
