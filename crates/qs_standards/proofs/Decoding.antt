-- Bytes are decoded as the standard decodes them exactly if no broken escape covers anything.
use Rattle.std.proofs.Common.{◌≡◌, ◌↔◌, ℕ, suc, ◌+◌, ◌*◌, ◌≤◌, Bool, true, false, cond, ◌&&◌, ◌||◌, ◌==◌, List, [], ◌∷◌, map, length, refl, sym, ap, ap₂, ◌∙◌, arith}
use Rattle.std.specs.Char.{digit_value, is_digit}
use Rattle.std.proofs.lemmas.Bool.Decides.{nat_tests}
use Rattle.qs_spec.specs.Escape.{decoded, unplus}
use Rattle.qs_standards.specs.PercentDecode.{percent_decoded}
use Rattle.qs_standards.specs.FormUrlencoded.{form_decoded, plus_to_space}
use Rattle.qs_standards.specs.Covered.{begins_digits, begins_encoded, covers_encoded}
use Rattle.qs_spec.proofs.Booleans.{and_both, or_both}

pub equal_of : (a b : ℕ) → (a == b) ≡ true → a ≡ b
equal_of a b e = grind (arith, nat_tests)

-- `+` is no digit and no `%`, and a space is neither
spaced : (b : ℕ) → (plus_to_space b == 37) ≡ (b == 37)
spaced b = by (b == 43) refl
  where
    by : (p : Bool) → (b == 43) ≡ p → (cond p 32 b == 37) ≡ (b == 37)
    by true e = sym (ap (λ x. x == 37) (equal_of b 43 e))
    by false e = refl

digit_spaced : (b : ℕ) → is_digit (plus_to_space b) 16 ≡ is_digit b 16
digit_spaced b = by (b == 43) refl
  where
    by : (p : Bool) → (b == 43) ≡ p → is_digit (cond p 32 b) 16 ≡ is_digit b 16
    by true e = sym (ap (λ x. is_digit x 16) (equal_of b 43 e))
    by false e = refl

percent_is : (b : ℕ) → (b == 37) ≡ true → plus_to_space b ≡ b
percent_is b e = let w = equal_of b 37 e in ap plus_to_space w ∙ sym w

digit_stays : (b : ℕ) → is_digit b 16 ≡ true → plus_to_space b ≡ b
digit_stays b d = by (b == 43) refl
  where
    by : (p : Bool) → (b == 43) ≡ p → cond p 32 b ≡ b
    by true e = let w = sym d ∙ ap (λ x. is_digit x 16) (equal_of b 43 e) in cc
    by false e = refl

-- the standard's decoding by cases on the first bytes
begins_spaced : (rest : List ℕ) → begins_digits (map plus_to_space rest) ≡ begins_digits rest
begins_spaced [] = refl
begins_spaced (c ∷ []) = refl
begins_spaced (c ∷ e ∷ rest) = ap (λ x. x && is_digit (plus_to_space e) 16) (digit_spaced c) ∙ ap (λ x. is_digit c 16 && x) (digit_spaced e)

percent_kept : (b : ℕ) (rest : List ℕ) → (b == 37 && begins_digits rest) ≡ false → percent_decoded (b ∷ rest) ≡ b ∷ percent_decoded rest
percent_kept b [] h = refl
percent_kept b (c ∷ []) h = refl
percent_kept b (c ∷ e ∷ rest) h = ap (λ x. cond x ((16 * digit_value c + digit_value e) ∷ percent_decoded rest) (b ∷ percent_decoded (c ∷ e ∷ rest))) h

pub kept : (b : ℕ) (rest : List ℕ) → (b == 37 && begins_digits rest) ≡ false → form_decoded (b ∷ rest) ≡ plus_to_space b ∷ form_decoded rest
kept b rest h = percent_kept (plus_to_space b) (map plus_to_space rest) (ap (λ x. x && begins_digits (map plus_to_space rest)) (spaced b) ∙ ap (λ x. b == 37 && x) (begins_spaced rest) ∙ h)

pub escaped : (b c e : ℕ) (rest : List ℕ) → (b == 37) ≡ true → is_digit c 16 ≡ true → is_digit e 16 ≡ true → form_decoded (b ∷ c ∷ e ∷ rest) ≡ (16 * digit_value c + digit_value e) ∷ form_decoded rest
escaped b c e rest p d f =
    ap (λ x. cond x ((16 * digit_value (plus_to_space c) + digit_value (plus_to_space e)) ∷ form_decoded rest) (plus_to_space b ∷ form_decoded (c ∷ e ∷ rest))) (spaced_escape (spaced b ∙ p) (digit_spaced c ∙ d) (digit_spaced e ∙ f))
    ∙ ap (λ x. (16 * digit_value x + digit_value (plus_to_space e)) ∷ form_decoded rest) (digit_stays c d)
    ∙ ap (λ x. (16 * digit_value c + digit_value x) ∷ form_decoded rest) (digit_stays e f)
  where
    spaced_escape : {x y z : Bool} → x ≡ true → y ≡ true → z ≡ true → (x && (y && z)) ≡ true
    spaced_escape a b c = ap₂ (λ x y. x && y) a (ap₂ (λ y z. y && z) b c)

pub no_digit : (c : ℕ) → is_digit c 16 ≡ true → (c == 37) ≡ false
no_digit c d = by (c == 37) refl
  where
    by : (p : Bool) → (c == 37) ≡ p → p ≡ false
    by true e = let w = sym d ∙ ap (λ x. is_digit x 16) (equal_of c 37 e) in cc
    by false e = refl

both_false : (a b : Bool) → a ≡ false → (a && b) ≡ false
both_false a b e = ap (λ x. x && b) e

not_both : (a b : Bool) → b ≡ false → (a && b) ≡ false
not_both true b e = e
not_both false b e = refl

percent_stays : (b : ℕ) (rest : List ℕ) → (b == 37) ≡ true → begins_digits rest ≡ false → form_decoded (b ∷ rest) ≡ b ∷ form_decoded rest
percent_stays b rest p h = kept b rest (not_both (b == 37) (begins_digits rest) h) ∙ ap (λ x. x ∷ form_decoded rest) (percent_is b p)

pub digit_kept : (c : ℕ) (rest : List ℕ) → is_digit c 16 ≡ true → form_decoded (c ∷ rest) ≡ c ∷ form_decoded rest
digit_kept c rest d = kept c rest (both_false (c == 37) (begins_digits rest) (no_digit c d)) ∙ ap (λ x. x ∷ form_decoded rest) (digit_stays c d)

-- what isn't encoded stays
stays : (b : ℕ) (rest : List ℕ) → begins_encoded (b ∷ rest) ≡ false → form_decoded (b ∷ rest) ≡ b ∷ form_decoded rest
stays b rest h = let p = or_both (b == 43) (b == 37 && begins_digits rest) h in kept b rest p.1 ∙ ap (λ x. cond x 32 b ∷ form_decoded rest) p.0

-- this notation's decoding after `%` that begins no escape
abbrev decoded_by : ℕ → ℕ → ℕ → List ℕ → Bool → Bool → Bool → List ℕ
decoded_by b c e rest p d f = cond p (cond d (cond f ((16 * digit_value c + digit_value e) ∷ decoded rest) (b ∷ c ∷ e ∷ decoded rest)) (b ∷ c ∷ decoded (e ∷ rest))) (unplus b ∷ decoded (c ∷ e ∷ rest))

abbrev pub covers_by : ℕ → ℕ → List ℕ → Bool → Bool → Bool → Bool
covers_by c e rest p d f = cond p (cond d (cond f (covers_encoded rest) (begins_encoded (e ∷ rest) || covers_encoded rest)) (begins_encoded (c ∷ e ∷ rest) || covers_encoded (e ∷ rest))) (covers_encoded (c ∷ e ∷ rest))

pub agree : (raw : List ℕ) → covers_encoded raw ≡ false → decoded raw ≡ form_decoded raw
agree [] h = refl
agree (b ∷ []) h = refl
agree (b ∷ c ∷ []) h = by (b == 37) refl h
  where
    by : (p : Bool) → (b == 37) ≡ p → (p && c == 43) ≡ false → cond p (b ∷ c ∷ []) (unplus b ∷ unplus c ∷ []) ≡ plus_to_space b ∷ plus_to_space c ∷ []
    by true e g = ap₂ (λ x y. x ∷ y ∷ []) (sym (percent_is b e)) (sym (ap (λ x. cond x 32 c) g))
    by false e g = refl
agree (b ∷ c ∷ e ∷ rest) h = by (b == 37) (is_digit c 16) (is_digit e 16) refl refl refl h (agree (c ∷ e ∷ rest)) (agree (e ∷ rest)) (agree rest)
  where
    by : (p d f : Bool) → (b == 37) ≡ p → is_digit c 16 ≡ d → is_digit e 16 ≡ f → covers_by c e rest p d f ≡ false
        → (covers_encoded (c ∷ e ∷ rest) ≡ false → decoded (c ∷ e ∷ rest) ≡ form_decoded (c ∷ e ∷ rest)) → (covers_encoded (e ∷ rest) ≡ false → decoded (e ∷ rest) ≡ form_decoded (e ∷ rest))
        → (covers_encoded rest ≡ false → decoded rest ≡ form_decoded rest) → decoded_by b c e rest p d f ≡ form_decoded (b ∷ c ∷ e ∷ rest)
    by false d f ep ed ef h one two three = ap (λ l. unplus b ∷ l) (one h) ∙ sym (kept b (c ∷ e ∷ rest) (both_false (b == 37) (begins_digits (c ∷ e ∷ rest)) ep))
    by true true true ep ed ef h one two three = ap (λ l. (16 * digit_value c + digit_value e) ∷ l) (three h) ∙ sym (escaped b c e rest ep ed ef)
    by true true false ep ed ef h one two three =
        let g = or_both (begins_encoded (e ∷ rest)) (covers_encoded rest) h in
        sym (percent_stays b (c ∷ e ∷ rest) ep (not_both (is_digit c 16) (is_digit e 16) ef) ∙ ap (λ l. b ∷ l) (digit_kept c (e ∷ rest) ed ∙ ap (λ l. c ∷ l) (stays e rest g.0 ∙ ap (λ l. e ∷ l) (sym (three g.1)))))
    by true false f ep ed ef h one two three =
        let g = or_both (begins_encoded (c ∷ e ∷ rest)) (covers_encoded (e ∷ rest)) h in
        sym (percent_stays b (c ∷ e ∷ rest) ep (both_false (is_digit c 16) (is_digit e 16) ed) ∙ ap (λ l. b ∷ l) (stays c (e ∷ rest) g.0 ∙ ap (λ l. c ∷ l) (sym (two g.1))))

-- one byte more is at most one byte more decoded
one_more : (b : ℕ) (rest : List ℕ) → length (form_decoded (b ∷ rest)) ≤ suc (length (form_decoded rest))
one_more b rest = by (b == 37 && begins_digits rest) refl
  where
    digits : (rest : List ℕ) → (b == 37) ≡ true → begins_digits rest ≡ true → length (form_decoded (b ∷ rest)) ≤ suc (length (form_decoded rest))
    digits [] p d = cc
    digits (c ∷ []) p d = cc
    digits (c ∷ e ∷ rest) p d =
        let g = and_both (is_digit c 16) (is_digit e 16) d in
        let a = ap length (escaped b c e rest p g.0 g.1) in
        let k = ap length (digit_kept c (e ∷ rest) g.0) in
        let l = ap length (digit_kept e rest g.1) in
        omega arith

    by : (x : Bool) → (b == 37 && begins_digits rest) ≡ x → length (form_decoded (b ∷ rest)) ≤ suc (length (form_decoded rest))
    by true h = let g = and_both (b == 37) (begins_digits rest) h in digits rest g.0 g.1
    by false h = let a = ap length (kept b rest h) in omega arith

-- what the standard decodes is never longer
shorter : (raw : List ℕ) → length (form_decoded raw) ≤ length (decoded raw)
shorter [] = omega arith
shorter (b ∷ []) = omega arith
shorter (b ∷ c ∷ []) = by (b == 37)
  where
    by : (p : Bool) → 2 ≤ length (cond p (b ∷ c ∷ []) (unplus b ∷ unplus c ∷ []))
    by true = omega arith
    by false = omega arith
shorter (b ∷ c ∷ e ∷ rest) = by (b == 37) (is_digit c 16) (is_digit e 16) refl refl refl (shorter (c ∷ e ∷ rest)) (shorter (e ∷ rest)) (shorter rest)
  where
    by : (p d f : Bool) → (b == 37) ≡ p → is_digit c 16 ≡ d → is_digit e 16 ≡ f → length (form_decoded (c ∷ e ∷ rest)) ≤ length (decoded (c ∷ e ∷ rest)) → length (form_decoded (e ∷ rest)) ≤ length (decoded (e ∷ rest))
        → length (form_decoded rest) ≤ length (decoded rest) → length (form_decoded (b ∷ c ∷ e ∷ rest)) ≤ length (decoded_by b c e rest p d f)
    by false d f ep ed ef one two three = let a = one_more b (c ∷ e ∷ rest) in omega arith
    by true true true ep ed ef one two three = let a = ap length (escaped b c e rest ep ed ef) in omega arith
    by true true false ep ed ef one two three = let x = one_more b (c ∷ e ∷ rest) in let y = one_more c (e ∷ rest) in let z = one_more e rest in omega arith
    by true false f ep ed ef one two three = let x = one_more b (c ∷ e ∷ rest) in let y = one_more c (e ∷ rest) in omega arith

heads : {a b : ℕ} {xs ys : List ℕ} → a ∷ xs ≡ b ∷ ys → a ≡ b
heads e = cc

tails : {a b : ℕ} {xs ys : List ℕ} → a ∷ xs ≡ b ∷ ys → xs ≡ ys
tails e = cc

-- a covered `+` or escape is decoded by the standard, and stays here
covered_plus : (b : ℕ) (rest kept_rest : List ℕ) → (b == 43) ≡ true → b ∷ kept_rest ≡ form_decoded (b ∷ rest) → ⊥
covered_plus b rest kept_rest e w =
    let q = equal_of b 43 e in
    let r = heads (w ∙ kept b rest (both_false (b == 37) (begins_digits rest) (ap (λ x. x == 37) q)) ∙ ap (λ x. cond x 32 b ∷ form_decoded rest) e) in
    omega arith

covered_escape : (b : ℕ) (rest : List ℕ) → (b == 37) ≡ true → begins_digits rest ≡ true → b ∷ decoded rest ≡ form_decoded (b ∷ rest) → ⊥
covered_escape b [] p d w = cc
covered_escape b (c ∷ []) p d w = cc
covered_escape b (c ∷ e ∷ rest) p d w =
    let g = and_both (is_digit c 16) (is_digit e 16) d in
    let a = ap length (w ∙ escaped b c e rest p g.0 g.1) in
    let k = ap length (digit_kept c (e ∷ rest) g.0) in
    let l = ap length (digit_kept e rest g.1) in
    let m = shorter (c ∷ e ∷ rest) in
    omega arith

covered : (b : ℕ) (rest : List ℕ) → begins_encoded (b ∷ rest) ≡ true → b ∷ decoded rest ≡ form_decoded (b ∷ rest) → ⊥
covered b rest h w = by (b == 43) refl h
  where
    by : (x : Bool) → (b == 43) ≡ x → (x || b == 37 && begins_digits rest) ≡ true → ⊥
    by true e h = covered_plus b rest (decoded rest) e w
    by false e h = let g = and_both (b == 37) (begins_digits rest) h in covered_escape b rest g.0 g.1 w

differ : (raw : List ℕ) → covers_encoded raw ≡ true → decoded raw ≡ form_decoded raw → ⊥
differ [] h w = cc
differ (b ∷ []) h w = cc
differ (b ∷ c ∷ []) h w =
    let g = and_both (b == 37) (c == 43) h in
    covered c [] (ap (λ x. x || c == 37 && false) g.1) (tails (sym (ap (λ p. cond p (b ∷ c ∷ []) (unplus b ∷ unplus c ∷ [])) g.0) ∙ w))
differ (b ∷ c ∷ e ∷ rest) h w = by (b == 37) (is_digit c 16) (is_digit e 16) refl refl refl h w (differ (c ∷ e ∷ rest)) (differ (e ∷ rest)) (differ rest)
  where
    -- a byte that a broken escape keeps, and the rest
    last : (x : ℕ) (rest : List ℕ) → (begins_encoded (x ∷ rest) || covers_encoded rest) ≡ true → x ∷ decoded rest ≡ form_decoded (x ∷ rest) → (covers_encoded rest ≡ true → decoded rest ≡ form_decoded rest → ⊥) → ⊥
    last x rest h w more = by (begins_encoded (x ∷ rest)) refl h
      where
        by : (y : Bool) → begins_encoded (x ∷ rest) ≡ y → (y || covers_encoded rest) ≡ true → ⊥
        by true e h = covered x rest e w
        by false e h = more h (tails (w ∙ stays x rest e))

    by : (p d f : Bool) → (b == 37) ≡ p → is_digit c 16 ≡ d → is_digit e 16 ≡ f → covers_by c e rest p d f ≡ true → decoded_by b c e rest p d f ≡ form_decoded (b ∷ c ∷ e ∷ rest)
        → (covers_encoded (c ∷ e ∷ rest) ≡ true → decoded (c ∷ e ∷ rest) ≡ form_decoded (c ∷ e ∷ rest) → ⊥) → (covers_encoded (e ∷ rest) ≡ true → decoded (e ∷ rest) ≡ form_decoded (e ∷ rest) → ⊥)
        → (covers_encoded rest ≡ true → decoded rest ≡ form_decoded rest → ⊥) → ⊥
    by false d f ep ed ef h w one two three = one h (tails (w ∙ kept b (c ∷ e ∷ rest) (both_false (b == 37) (begins_digits (c ∷ e ∷ rest)) ep)))
    by true true true ep ed ef h w one two three = three h (tails (w ∙ escaped b c e rest ep ed ef))
    by true true false ep ed ef h w one two three =
        last e rest h (tails (tails (w ∙ percent_stays b (c ∷ e ∷ rest) ep (not_both (is_digit c 16) (is_digit e 16) ef) ∙ ap (λ l. b ∷ l) (digit_kept c (e ∷ rest) ed)))) three
    by true false f ep ed ef h w one two three =
        last c (e ∷ rest) h (tails (w ∙ percent_stays b (c ∷ e ∷ rest) ep (both_false (is_digit c 16) (is_digit e 16) ed))) two

pub alike : (raw : List ℕ) → (decoded raw ≡ form_decoded raw) ↔ (covers_encoded raw ≡ false)
alike raw = (λ e. by (covers_encoded raw) refl e, agree raw)
  where
    by : (x : Bool) → covers_encoded raw ≡ x → decoded raw ≡ form_decoded raw → x ≡ false
    by true h e = absurd (differ raw h e)
    by false h e = refl
