-- Digits and their numbers.
use Rattle.std.proofs.Common.{◌≡◌, ℕ, zero, suc, ◌+◌, ◌-◌, ◌*◌, ◌^◌, ◌<◌, true, false, ◌&&◌, ◌==◌, List, [], ◌∷◌, length, refl, sym, ap, ap₂, ◌∙◌, arith, get_or, nat_le}
use Rattle.std.specs.List.{list_all, fold}
use Rattle.std.specs.Fmt.{decimal}
use Rattle.std.specs.Int.{IsInRange}
use Rattle.std.proofs.lemmas.Bool.Decides.{nat_tests}
use Rattle.std.proofs.lemmas.Fmt.{digits_decimal, digits_value-decimal, decimal-digits_value, decimal_nonempty, decimal_digit, first_decimal}
use Rattle.std.proofs.lemmas.Str.Parse.{IsNumeralModel, IsDigitsTest, FoldsDigits, numerals_by_fold}
use Rattle.qs_spec.specs.Escape.{is_between}
use Rattle.qs_spec.specs.Segment.{number}
use Rattle.qs_spec.specs.Scalar.{is_numeral, has_leading_zero}
use Rattle.qs_spec.proofs.Booleans.{and_both}

abbrev pub AreDigits : List ℕ → Type 0
AreDigits ds = list_all (is_between 48 57) ds ≡ true

in_range : (c : ℕ) → is_between 48 57 c ≡ true → IsInRange 48 57 c
in_range c e = let h = and_both (nat_le 48 c) (nat_le c 57) e in grind (arith, nat_tests)

is_in : (c : ℕ) → IsInRange 48 57 c → is_between 48 57 c ≡ true
is_in c h = grind (arith, nat_tests)

tests : IsDigitsTest AreDigits
tests = record {
  empty = refl;
  parts = λ c cs e. let h = and_both (is_between 48 57 c) (list_all (is_between 48 57) cs) e in (in_range c h.0, h.1);
  more = λ c cs r e. ap₂ (λ a b. a && b) (is_in c r) e;
}

abbrev from_left : ℕ → List ℕ → ℕ
from_left n ds = fold (λ n b. 10 * n + (b - 48)) n ds

folds : FoldsDigits from_left
folds = record {
  empty = λ n. refl;
  more = λ n c cs r. let e : 10 * n + (c - 48) ≡ n * 10 + (c - 48) = omega arith in ap (λ m. from_left m cs) e;
}

-- `number` is the number that digits write
pub numerals : IsNumeralModel AreDigits number
numerals = numerals_by_fold AreDigits tests from_left folds

-- digits without a leading zero are printed of their number
pub printed : (ds : List ℕ) → is_numeral ds ≡ true → has_leading_zero ds ≡ false → number ds < 2 ^ 64 → decimal (number ds) ≡ ds
printed [] e z l = cc
printed (b ∷ []) e z l = decimal-digits_value numerals (b ∷ []) e (omega arith) (λ w. refl) l
printed (b ∷ c ∷ ds) e z l = decimal-digits_value numerals (b ∷ c ∷ ds) e (omega arith) (λ w. let v = sym z ∙ ap (λ x. x == 48) w in cc) l

numeral_of : (ds : List ℕ) → AreDigits ds → 0 < length ds → is_numeral ds ≡ true
numeral_of [] e l = absurd (omega arith)
numeral_of (b ∷ ds) e l = e

pub digits_of_number : (n : ℕ) → n < 2 ^ 64 → is_numeral (decimal n) ≡ true
digits_of_number n l = numeral_of (decimal n) (digits_decimal numerals n l) (decimal_nonempty n l)

pub number_of_digits : (n : ℕ) → n < 2 ^ 64 → number (decimal n) ≡ n
number_of_digits n l = digits_value-decimal numerals n l

above_zero : (ds : List ℕ) → 48 < get_or ds 0 0 → has_leading_zero ds ≡ false
above_zero [] l = refl
above_zero (b ∷ []) l = refl
above_zero (b ∷ c ∷ ds) l = grind (arith, nat_tests)

pub no_leading_zero : (n : ℕ) → n < 2 ^ 64 → has_leading_zero (decimal n) ≡ false
no_leading_zero zero l = ap has_leading_zero (decimal_digit 0 (omega arith))
no_leading_zero (suc n) l = above_zero (decimal (suc n)) (first_decimal (suc n) (omega arith) l)
