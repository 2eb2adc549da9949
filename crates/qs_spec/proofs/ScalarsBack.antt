-- The texts of scalars are read back.
use Rattle.std.proofs.Common.{◌≡◌, ℕ, suc, ◌^◌, ◌+◌, ◌-◌, ◌<◌, ◌≤◌, Bool, true, false, cond, ◌&&◌, ◌==◌, List, [], ◌∷◌, refl, sym, ap, ap₂, ◌∙◌, arith, nat_le, Some, None, option_map, append-nil, pos, negsuc, neg_ℤ}
use Rattle.std.specs.List.{list_all, list_any}
use Rattle.std.specs.Str.{bytes_eq, chars}
use Rattle.std.specs.Char.{IsScalar, encode_utf8}
use Rattle.std.specs.Fmt.{decimal, signed_decimal}
use Rattle.std.proofs.lemmas.Bool.Decides.{nat_tests}
use Rattle.std.proofs.lemmas.Str.{chars-encodes, IsUtf8-encode, is_utf8-from_IsUtf8}
use Rattle.qs_spec.specs.Escape.{is_between}
use Rattle.qs_spec.specs.Segment.{number}
use Rattle.qs_spec.specs.Data.{Data}
use Rattle.qs_spec.specs.Scalar.{is_numeral, numeral_up_to, unsigned_number, signed_number, boolean_data, unsigned_data, signed_data, character_data, only_character, name_data}
use Rattle.qs_spec.specs.Entry.{boolean_text}
use Rattle.qs_spec.proofs.Booleans.{and_both}
use Rattle.qs_spec.proofs.Numerals.{digits_of_number, number_of_digits}

pub boolean_back : (b : Bool) → boolean_data (boolean_text b) ≡ Some (Data.boolean b)
boolean_back true = refl
boolean_back false = refl

at_most : (m n : ℕ) → m ≤ n → nat_le m n ≡ true
at_most m n l = grind (arith, nat_tests)

numeral_back : (most n : ℕ) → n ≤ most → n < 2 ^ 64 → numeral_up_to most (decimal n) ≡ Some n
numeral_back most n l h =
    let v = number_of_digits n h in
    ap₂ (λ a b. cond (a && b) (Some (number (decimal n))) None) (digits_of_number n h) (ap (λ m. nat_le m most) v ∙ at_most n most l) ∙ ap Some v

-- digits begin with no sign
no_sign : (sign b : ℕ) → sign < 48 → is_between 48 57 b ≡ true → (b == sign) ≡ false
no_sign sign b l e = let h = and_both (nat_le 48 b) (nat_le b 57) e in grind (arith, nat_tests)

first_digit : (b : ℕ) (ds : List ℕ) → is_numeral (b ∷ ds) ≡ true → is_between 48 57 b ≡ true
first_digit b ds e = (and_both (is_between 48 57 b) (list_all (is_between 48 57) ds) e).0

unsigned_plain : (bits : ℕ) (ds : List ℕ) → is_numeral ds ≡ true → unsigned_number bits ds ≡ numeral_up_to (2 ^ bits - 1) ds
unsigned_plain bits [] e = cc
unsigned_plain bits (b ∷ ds) e = ap (λ x. numeral_up_to (2 ^ bits - 1) (cond x ds (b ∷ ds))) (no_sign 43 b (omega arith) (first_digit b ds e))

signed_plain : (bits : ℕ) (ds : List ℕ) → is_numeral ds ≡ true → signed_number bits ds ≡ option_map pos (numeral_up_to (2 ^ (bits - 1) - 1) ds)
signed_plain bits [] e = cc
signed_plain bits (b ∷ ds) e =
    ap₂ (λ x y. cond x (option_map (λ n. neg_ℤ (pos n)) (numeral_up_to (2 ^ (bits - 1)) ds)) (option_map pos (numeral_up_to (2 ^ (bits - 1) - 1) (cond y ds (b ∷ ds)))))
    (no_sign 45 b (omega arith) (first_digit b ds e)) (no_sign 43 b (omega arith) (first_digit b ds e))

pub unsigned_back : (bits n : ℕ) → n < 2 ^ bits → n < 2 ^ 64 → unsigned_data bits (decimal n) ≡ Some (Data.unsigned n)
unsigned_back bits n l h = ap (option_map Data.unsigned) (unsigned_plain bits (decimal n) (digits_of_number n h) ∙ numeral_back (2 ^ bits - 1) n (omega arith) h)

pub positive_back : (bits n : ℕ) → n < 2 ^ (bits - 1) → n < 2 ^ 64 → signed_data bits (signed_decimal (pos n)) ≡ Some (Data.signed (pos n))
positive_back bits n l h =
    ap (option_map Data.signed) (signed_plain bits (decimal n) (digits_of_number n h) ∙ ap (option_map pos) (numeral_back (2 ^ (bits - 1) - 1) n (omega arith) h))

pub negative_back : (bits n : ℕ) → n < 2 ^ (bits - 1) → n + 1 < 2 ^ 64 → signed_data bits (signed_decimal (negsuc n)) ≡ Some (Data.signed (negsuc n))
negative_back bits n l h =
    ap (λ o. option_map Data.signed (option_map (λ n. neg_ℤ (pos n)) o)) (numeral_back (2 ^ (bits - 1)) (suc n) (omega arith) (omega arith))

pub characters : (c : ℕ) → IsScalar c → chars (encode_utf8 c) ≡ c ∷ []
characters c s = ap chars (sym (append-nil (encode_utf8 c))) ∙ chars-encodes (c ∷ []) (ap (λ b. b && true) s)

pub character_back : (c : ℕ) → IsScalar c → character_data (encode_utf8 c) ≡ Some (Data.character c)
character_back c s =
    ap (λ b. cond b (only_character (chars (encode_utf8 c))) None) (is_utf8-from_IsUtf8 (encode_utf8 c) (IsUtf8-encode c s)) ∙ ap only_character (characters c s)

pub name_back : (names : List (List ℕ)) (name : List ℕ) → list_any (bytes_eq name) names ≡ true → name_data names name ≡ Some (Data.unit_variant name)
name_back names name e = ap (λ b. cond b (Some (Data.unit_variant name)) None) e
