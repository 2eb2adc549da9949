-- No text of a boolean, a number or a character is empty, and several data are more than one.
use Rattle.qs_data.proofs.Common.{◌≡◌, ℕ, ◌+◌, ◌<◌, ◌≤◌, ◌^◌, Bool, true, false, List, [], ◌∷◌, length, decimal, ℤ, pos, negsuc, Some, refl, sym, subst, arith, length-encode, len_utf8_bounds, boolean_text, is_empty_text, is_one_empty, values_in, Data, decimal_nonempty}
use Rattle.std.specs.Fmt.{signed_decimal}
use Rattle.std.specs.Char.{encode_utf8}
use Rattle.std.specs.Int.Signed.{mag}

some_bytes : (text : List ℕ) → 0 < length text → is_empty_text (Some text) ≡ false
some_bytes [] l = absurd (omega (arith, l))
some_bytes (b ∷ bs) l = refl

pub boolean_filled : (b : Bool) → is_empty_text (Some (boolean_text b)) ≡ false
boolean_filled true = refl
boolean_filled false = refl

pub unsigned_filled : (n : ℕ) → n < 2 ^ 64 → is_empty_text (Some (decimal n)) ≡ false
unsigned_filled n l = some_bytes (decimal n) (decimal_nonempty n l)

pub signed_filled : (z : ℤ) → mag z + 1 < 2 ^ 64 → is_empty_text (Some (signed_decimal z)) ≡ false
signed_filled (pos n) l = unsigned_filled n (omega (arith, l))
signed_filled (negsuc n) l = refl

pub character_filled : (c : ℕ) → is_empty_text (Some (encode_utf8 c)) ≡ false
character_filled c = some_bytes (encode_utf8 c) (subst (λ k. 0 < k) (sym (length-encode c)) (len_utf8_bounds c).0)

pub ruleset filled = (boolean_filled, unsigned_filled, signed_filled, character_filled)

pub several : (xs : List Data) → 2 ≤ length xs → is_one_empty (values_in xs) ≡ false
several (x ∷ y ∷ xs) l = refl
several [] l = absurd (omega (arith, l))
several (x ∷ []) l = absurd (omega (arith, l))
