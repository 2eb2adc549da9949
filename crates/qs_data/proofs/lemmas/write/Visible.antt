-- What is encoded is visible.
use Rattle.qs_data.proofs.Common.{suc, ◌+◌, ◌^◌, ℤ, pos, negsuc, ◌++◌, sym, ap, ◌∙◌, subst, ◌≡◌, ℕ, ◌<◌, Bool, true, false, ◌&&◌, leb, List, [], ◌∷◌, get_or, refl, arith, Fits, w8, All, AllByRecursion, list_all, decimal, digits_decimal, agree_below_at, nat_tests, All-nil, All-cons, All-append, All-head, All-tail, All-from_get_or, encoded_byte, encoded, is_between, open_bytes, close_bytes, IsVisible}
use Rattle.std.specs.Fmt.{signed_decimal}
use Rattle.std.specs.Int.Signed.{mag}
use Rattle.qs_spec.proofs.Booleans.{and_both}
use Rattle.qs_spec.proofs.Numerals.{AreDigits, numerals}
use Rattle.qs_spec.proofs.KeysBack.{encoded_digits}

abbrev is_visible : ℕ → Bool
is_visible b = leb 33 b && leb b 126

byte_visible : (is_form : Bool) (b : ℕ) → b < 256 → list_all is_visible (encoded_byte is_form b) ≡ true
byte_visible true b l = agree_below_at (λ b. list_all is_visible (encoded_byte true b)) (λ b. true) 256 b refl l
byte_visible false b l = agree_below_at (λ b. list_all is_visible (encoded_byte false b)) (λ b. true) 256 b refl l

visible_of : (b : ℕ) → is_visible b ≡ true → IsVisible b
visible_of b e = let h = and_both (leb 33 b) (leb b 126) e in (grind (arith, nat_tests), grind (arith, nat_tests))

all_visible : (bs : List ℕ) → list_all is_visible bs ≡ true → All IsVisible bs
all_visible [] e = All-nil IsVisible
all_visible (b ∷ bs) e = let h = and_both (is_visible b) (list_all is_visible bs) e in All-cons IsVisible b bs (visible_of b h.0) (all_visible bs h.1)

abbrev IsByte : ℕ → Type 0
IsByte b = b < 256

encoded_all : (is_form : Bool) (bs : List ℕ) → All IsByte bs → All IsVisible (encoded is_form bs)
encoded_all is_form [] h = All-nil IsVisible
encoded_all is_form (b ∷ bs) h =
    All-append IsVisible (encoded_byte is_form b) (encoded is_form bs) (all_visible (encoded_byte is_form b) (byte_visible is_form b (All-head IsByte b bs h))) (encoded_all is_form bs (All-tail IsByte b bs h))

pub encoded_visible : (is_form : Bool) (bs : List ℕ) → ((k : ℕ) → Fits w8 (get_or bs k 0)) → All IsVisible (encoded is_form bs)
encoded_visible is_form bs h = encoded_all is_form bs (All-from_get_or IsByte bs 0 (λ k l. omega (arith, h k)))

pub open_visible : (is_form : Bool) → All IsVisible (open_bytes is_form)
open_visible true = all_visible (open_bytes true) refl
open_visible false = all_visible (open_bytes false) refl

pub close_visible : (is_form : Bool) → All IsVisible (close_bytes is_form)
close_visible true = all_visible (close_bytes true) refl
close_visible false = all_visible (close_bytes false) refl

pub equals_visible : All IsVisible (61 ∷ [])
equals_visible = all_visible (61 ∷ []) refl

pub ruleset joined = (All-append, open_visible, close_visible, equals_visible)

-- a text that is written as it is
abbrev IsWrittenAsIs : Bool → List ℕ → Type 0
IsWrittenAsIs is_form text = (encoded is_form text ≡ text) × All IsVisible (encoded is_form text)

digits_bytes : (ds : List ℕ) → AreDigits ds → AllByRecursion (λ b. b < 256) ds
digits_bytes [] e = tt
digits_bytes (b ∷ ds) e = let h = and_both (is_between 48 57 b) (list_all (is_between 48 57) ds) e in
    let r = and_both (leb 48 b) (leb b 57) h.0 in (grind (arith, nat_tests), digits_bytes ds h.1)

digits_visible : (ds : List ℕ) → AreDigits ds → All IsVisible ds
digits_visible [] e = All-nil IsVisible
digits_visible (b ∷ ds) e = let h = and_both (is_between 48 57 b) (list_all (is_between 48 57) ds) e in
    let r = and_both (leb 48 b) (leb b 57) h.0 in
    All-cons IsVisible b ds (grind (arith, nat_tests), grind (arith, nat_tests)) (digits_visible ds h.1)

unsigned_plain : (is_form : Bool) (n : ℕ) → n < 2 ^ 64 → IsWrittenAsIs is_form (decimal n)
unsigned_plain is_form n l =
    let digits = digits_decimal numerals n l in
    let same = encoded_digits is_form (decimal n) (digits_bytes (decimal n) digits) digits in
    (same, subst (All IsVisible) (sym same) (digits_visible (decimal n) digits))

minus : (is_form : Bool) → encoded_byte is_form 45 ≡ 45 ∷ []
minus true = refl
minus false = refl

signed_plain : (is_form : Bool) (z : ℤ) → mag z + 1 < 2 ^ 64 → IsWrittenAsIs is_form (signed_decimal z)
signed_plain is_form (pos n) l = unsigned_plain is_form n (omega (arith, l))
signed_plain is_form (negsuc n) l =
    let p = unsigned_plain is_form (suc n) (omega (arith, l)) in
    let same : encoded is_form (45 ∷ decimal (suc n)) ≡ 45 ∷ decimal (suc n) = ap (λ t. t ++ encoded is_form (decimal (suc n))) (minus is_form) ∙ ap (λ t. 45 ∷ t) p.0 in
    (same, subst (All IsVisible) (sym same) (All-cons IsVisible 45 (decimal (suc n)) (omega arith, omega arith) (subst (All IsVisible) p.0 p.1)))

pub unsigned_encoded : (is_form : Bool) (n : ℕ) → n < 2 ^ 64 → encoded is_form (decimal n) ≡ decimal n
unsigned_encoded is_form n l = (unsigned_plain is_form n l).0

pub unsigned_visible : (is_form : Bool) (n : ℕ) → n < 2 ^ 64 → All IsVisible (encoded is_form (decimal n))
unsigned_visible is_form n l = (unsigned_plain is_form n l).1

pub signed_encoded : (is_form : Bool) (z : ℤ) → mag z + 1 < 2 ^ 64 → encoded is_form (signed_decimal z) ≡ signed_decimal z
signed_encoded is_form z l = (signed_plain is_form z l).0

pub signed_visible : (is_form : Bool) (z : ℤ) → mag z + 1 < 2 ^ 64 → All IsVisible (encoded is_form (signed_decimal z))
signed_visible is_form z l = (signed_plain is_form z l).1

pub ruleset numbers = (unsigned_encoded, unsigned_visible, signed_encoded, signed_visible)
