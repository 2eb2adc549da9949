-- Encoded bytes are decoded to what was encoded.
use Rattle.std.proofs.Common.{◌≡◌, ℕ, arith, ◌<◌, ◌+◌, ◌*◌, Bool, true, false, cond, not, ◌&&◌, ◌==◌, List, [], ◌∷◌, ◌++◌, refl, ap, ◌∙◌}
use Rattle.std.specs.List.{AllByRecursion}
use Rattle.std.proofs.lemmas.Bool.{agree_below_at}
use Rattle.std.proofs.lemmas.Bool.Decides.{nat_tests}
use Rattle.std.specs.Char.{digit_value, is_digit}
use Rattle.qs_spec.specs.Escape.{encoded_byte, encoded, decoded, unplus}
use Rattle.qs_spec.proofs.Booleans.{and_both, not_of}

-- what was encoded is decoded to itself
abbrev is_back : ℕ → List ℕ → Bool
is_back b (x ∷ []) = not (x == 37) && unplus x == b
is_back b (x ∷ y ∷ z ∷ []) = x == 37 && is_digit y 16 && is_digit z 16 && (16 * digit_value y + digit_value z) == b
is_back b _ = false

backs : (is_form : Bool) (b : ℕ) → b < 256 → is_back b (encoded_byte is_form b) ≡ true
backs true b l = agree_below_at (λ b. is_back b (encoded_byte true b)) (λ b. true) 256 b refl l
backs false b l = agree_below_at (λ b. is_back b (encoded_byte false b)) (λ b. true) 256 b refl l

decoded_plain : (x : ℕ) (rest : List ℕ) → (x == 37) ≡ false → decoded (x ∷ rest) ≡ unplus x ∷ decoded rest
decoded_plain x [] e = refl
decoded_plain x (y ∷ []) e = ap (λ c. cond c (x ∷ y ∷ []) (unplus x ∷ decoded (y ∷ []))) e
decoded_plain x (y ∷ z ∷ rest) e = ap (λ c. cond c (cond (is_digit y 16) (cond (is_digit z 16) ((16 * digit_value y + digit_value z) ∷ decoded rest) (x ∷ y ∷ z ∷ decoded rest)) (x ∷ y ∷ decoded (z ∷ rest))) (unplus x ∷ decoded (y ∷ z ∷ rest))) e

decoded_escape : (x y z : ℕ) (rest : List ℕ) → (x == 37) ≡ true → is_digit y 16 ≡ true → is_digit z 16 ≡ true → decoded (x ∷ y ∷ z ∷ rest) ≡ (16 * digit_value y + digit_value z) ∷ decoded rest
decoded_escape x y z rest e f g =
    ap (λ c. cond c (cond (is_digit y 16) (cond (is_digit z 16) ((16 * digit_value y + digit_value z) ∷ decoded rest) (x ∷ y ∷ z ∷ decoded rest)) (x ∷ y ∷ decoded (z ∷ rest))) (unplus x ∷ decoded (y ∷ z ∷ rest))) e
    ∙ ap (λ c. cond c (cond (is_digit z 16) ((16 * digit_value y + digit_value z) ∷ decoded rest) (x ∷ y ∷ z ∷ decoded rest)) (x ∷ y ∷ decoded (z ∷ rest))) f
    ∙ ap (λ c. cond c ((16 * digit_value y + digit_value z) ∷ decoded rest) (x ∷ y ∷ z ∷ decoded rest)) g

eq_of : (a b : ℕ) → (a == b) ≡ true → a ≡ b
eq_of a b e = grind (arith, nat_tests)

decoded_one : (b : ℕ) (xs rest : List ℕ) → is_back b xs ≡ true → decoded (xs ++ rest) ≡ b ∷ decoded rest
decoded_one b [] rest e = cc
decoded_one b (x ∷ []) rest e = let h = and_both (not (x == 37)) _ e in decoded_plain x rest (not_of (x == 37) h.0) ∙ ap (λ c. c ∷ decoded rest) (eq_of (unplus x) b h.1)
decoded_one b (x ∷ y ∷ []) rest e = cc
decoded_one b (x ∷ y ∷ z ∷ []) rest e =
    let h = and_both (x == 37 && is_digit y 16 && is_digit z 16) _ e in
    let g = and_both (x == 37 && is_digit y 16) (is_digit z 16) h.0 in
    let f = and_both (x == 37) (is_digit y 16) g.0 in
    decoded_escape x y z rest f.0 f.1 g.1 ∙ ap (λ c. c ∷ decoded rest) (eq_of (16 * digit_value y + digit_value z) b h.1)
decoded_one b (x ∷ y ∷ z ∷ w ∷ xs) rest e = cc

pub decoded-encoded : (is_form : Bool) (s : List ℕ) → AllByRecursion (λ b. b < 256) s → decoded (encoded is_form s) ≡ s
decoded-encoded is_form [] l = refl
decoded-encoded is_form (b ∷ s) l = decoded_one b (encoded_byte is_form b) (encoded is_form s) (backs is_form b l.0) ∙ ap (λ r. b ∷ r) (decoded-encoded is_form s l.1)
