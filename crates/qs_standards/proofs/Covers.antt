-- A broken escape ends with its piece, so an input covers what its pieces do.
use Rattle.std.proofs.Common.{◌≡◌, ℕ, Bool, true, false, cond, ◌&&◌, ◌||◌, ◌==◌, List, [], ◌∷◌, ◌++◌, refl, sym, ap, ap₂, ◌∙◌, append_assoc, append-nil}
use Rattle.std.specs.List.{list_any, filter}
use Rattle.std.specs.Char.{is_digit}
use Rattle.qs_spec.proofs.Booleans.{or_both}
use Rattle.qs_standards.specs.FormUrlencoded.{before_first, split, isnt_empty, name_bytes, value_bytes}
use Rattle.qs_standards.specs.Covered.{begins_digits, begins_encoded, covers_encoded}
use Rattle.qs_standards.proofs.Decoding.{equal_of, covers_by}

-- a byte that is neither `%`, nor `+`, nor a digit
abbrev is_apart : ℕ → Bool
is_apart s = s == 37 || (s == 43 || is_digit s 16)

record IsApart (s : ℕ) : Type 0 where
  percent : (s == 37) ≡ false
  plus : (s == 43) ≡ false
  digit : is_digit s 16 ≡ false

apart : (s n : ℕ) → (s == n) ≡ true → is_apart n ≡ false → IsApart s
apart s n e h =
    let a = or_both (s == 37) (s == 43 || is_digit s 16) (ap is_apart (equal_of s n e) ∙ h) in
    let b = or_both (s == 43) (is_digit s 16) a.1 in
    record { percent = a.0; plus = b.0; digit = b.1 }

or_none : (a : Bool) → (a || false) ≡ a
or_none true = refl
or_none false = refl

and_none : (a : Bool) → (a && false) ≡ false
and_none true = refl
and_none false = refl

or_assoc : (a b c : Bool) → (a || (b || c)) ≡ ((a || b) || c)
or_assoc true b c = refl
or_assoc false b c = refl

pub covers_plain : (b : ℕ) (rest : List ℕ) → (b == 37) ≡ false → covers_encoded (b ∷ rest) ≡ covers_encoded rest
covers_plain b [] e = refl
covers_plain b (c ∷ []) e = ap (λ x. x && c == 43) e
covers_plain b (c ∷ e ∷ rest) h =
    ap (λ x. cond x (cond (is_digit c 16) (cond (is_digit e 16) (covers_encoded rest) (begins_encoded (e ∷ rest) || covers_encoded rest)) (begins_encoded (c ∷ e ∷ rest) || covers_encoded (e ∷ rest))) (covers_encoded (c ∷ e ∷ rest))) h

-- such a byte begins nothing, and ends what digits begin
not_begun : (s : ℕ) (rest : List ℕ) → IsApart s → begins_encoded (s ∷ rest) ≡ false
not_begun s rest a = ap₂ (λ x y. x || y && begins_digits rest) a.plus a.percent

digits_cut : (xs : List ℕ) (s : ℕ) (ys : List ℕ) → IsApart s → begins_digits (xs ++ s ∷ ys) ≡ begins_digits xs
digits_cut [] s [] a = refl
digits_cut [] s (y ∷ ys) a = ap (λ x. x && is_digit y 16) a.digit
digits_cut (c ∷ []) s ys a = ap (λ x. is_digit c 16 && x) a.digit ∙ and_none (is_digit c 16)
digits_cut (c ∷ e ∷ xs) s ys a = refl

begun_cut : (b : ℕ) (xs : List ℕ) (s : ℕ) (ys : List ℕ) → IsApart s → begins_encoded (b ∷ xs ++ s ∷ ys) ≡ begins_encoded (b ∷ xs)
begun_cut b xs s ys a = ap (λ x. b == 43 || b == 37 && x) (digits_cut xs s ys a)

digit_no_plus : (c : ℕ) → is_digit c 16 ≡ true → (c == 43) ≡ false
digit_no_plus c d = by (c == 43) refl
  where
    by : (p : Bool) → (c == 43) ≡ p → p ≡ false
    by true e = let w = sym d ∙ ap (λ x. is_digit x 16) (equal_of c 43 e) in cc
    by false e = refl

-- one byte and then such a byte, and two
covers_one : (b s : ℕ) (ys : List ℕ) → IsApart s → covers_encoded (b ∷ s ∷ ys) ≡ covers_encoded ys
covers_one b s [] a = ap (λ x. b == 37 && x) a.plus ∙ and_none (b == 37)
covers_one b s (y ∷ ys) a = by (b == 37)
  where
    by : (p : Bool) → cond p (cond (is_digit s 16) (cond (is_digit y 16) (covers_encoded ys) (begins_encoded (y ∷ ys) || covers_encoded ys)) (begins_encoded (s ∷ y ∷ ys) || covers_encoded (y ∷ ys))) (covers_encoded (s ∷ y ∷ ys)) ≡ covers_encoded (y ∷ ys)
    by true = ap (λ x. cond x (cond (is_digit y 16) (covers_encoded ys) (begins_encoded (y ∷ ys) || covers_encoded ys)) (begins_encoded (s ∷ y ∷ ys) || covers_encoded (y ∷ ys))) a.digit ∙ ap (λ x. x || covers_encoded (y ∷ ys)) (not_begun s (y ∷ ys) a)
    by false = covers_plain s (y ∷ ys) a.percent

covers_two : (b c s : ℕ) (ys : List ℕ) → IsApart s → covers_encoded (b ∷ c ∷ s ∷ ys) ≡ ((b == 37 && c == 43) || covers_encoded ys)
covers_two b c s ys a = by (b == 37) (is_digit c 16) refl
  where
    by : (p d : Bool) → is_digit c 16 ≡ d
        → cond p (cond d (cond (is_digit s 16) (covers_encoded ys) (begins_encoded (s ∷ ys) || covers_encoded ys)) (begins_encoded (c ∷ s ∷ ys) || covers_encoded (s ∷ ys))) (covers_encoded (c ∷ s ∷ ys)) ≡ ((p && c == 43) || covers_encoded ys)
    by true true ed = ap (λ x. cond x (covers_encoded ys) (begins_encoded (s ∷ ys) || covers_encoded ys)) a.digit ∙ ap (λ x. x || covers_encoded ys) (not_begun s ys a ∙ sym (digit_no_plus c ed))
    by true false ed = ap₂ (λ x y. x || y) (begun_cut c [] s ys a ∙ ap (λ x. c == 43 || x) (and_none (c == 37)) ∙ or_none (c == 43)) (covers_plain s ys a.percent)
    by false d ed = covers_one c s ys a

-- what two parts with such a byte between them cover
covers_cut : (xs : List ℕ) (s : ℕ) (ys : List ℕ) → IsApart s → covers_encoded (xs ++ s ∷ ys) ≡ (covers_encoded xs || covers_encoded ys)
covers_cut [] s ys a = covers_plain s ys a.percent
covers_cut (b ∷ []) s ys a = covers_one b s ys a
covers_cut (b ∷ c ∷ []) s ys a = covers_two b c s ys a
covers_cut (b ∷ c ∷ e ∷ xs) s ys a = by (b == 37) (is_digit c 16) (is_digit e 16) (covers_cut (c ∷ e ∷ xs) s ys a) (covers_cut (e ∷ xs) s ys a) (covers_cut xs s ys a)
  where
    by : (p d f : Bool) → covers_encoded (c ∷ e ∷ xs ++ s ∷ ys) ≡ (covers_encoded (c ∷ e ∷ xs) || covers_encoded ys) → covers_encoded (e ∷ xs ++ s ∷ ys) ≡ (covers_encoded (e ∷ xs) || covers_encoded ys)
        → covers_encoded (xs ++ s ∷ ys) ≡ (covers_encoded xs || covers_encoded ys) → covers_by c e (xs ++ s ∷ ys) p d f ≡ (covers_by c e xs p d f || covers_encoded ys)
    by false d f one two three = one
    by true true true one two three = three
    by true true false one two three = ap₂ (λ x y. x || y) (begun_cut e xs s ys a) three ∙ or_assoc (begins_encoded (e ∷ xs)) (covers_encoded xs) (covers_encoded ys)
    by true false f one two three = ap₂ (λ x y. x || y) (begun_cut c (e ∷ xs) s ys a) two ∙ or_assoc (begins_encoded (c ∷ e ∷ xs)) (covers_encoded (e ∷ xs)) (covers_encoded ys)

-- a name and a value
pub covers_piece : (piece : List ℕ) → covers_encoded piece ≡ (covers_encoded (name_bytes piece) || covers_encoded (value_bytes piece))
covers_piece piece = after [] piece
  where
    after : (front bytes : List ℕ) → covers_encoded (front ++ bytes) ≡ (covers_encoded (front ++ name_bytes bytes) || covers_encoded (value_bytes bytes))
    after front [] = sym (or_none (covers_encoded (front ++ [])))
    after front (b ∷ bytes) = by (b == 61) refl (after (front ++ b ∷ []) bytes)
      where
        by : (x : Bool) → (b == 61) ≡ x → covers_encoded ((front ++ b ∷ []) ++ bytes) ≡ (covers_encoded ((front ++ b ∷ []) ++ name_bytes bytes) || covers_encoded (value_bytes bytes))
            → covers_encoded (front ++ b ∷ bytes) ≡ (covers_encoded (front ++ cond x [] (b ∷ name_bytes bytes)) || covers_encoded (cond x bytes (value_bytes bytes)))
        by true e h = covers_cut front b bytes (apart b 61 e refl) ∙ ap (λ l. covers_encoded l || covers_encoded bytes) (sym (append-nil front))
        by false e h =
            ap covers_encoded (sym (append_assoc front (b ∷ []) bytes)) ∙ h ∙ ap (λ l. covers_encoded l || covers_encoded (value_bytes bytes)) (append_assoc front (b ∷ []) (name_bytes bytes))

-- bytes in front of the first of some pieces
abbrev covers_after : List ℕ → List (List ℕ) → Bool
covers_after front [] = covers_encoded front
covers_after front (piece ∷ pieces) = covers_encoded (front ++ piece) || list_any covers_encoded pieces

after_byte : (front : List ℕ) (b : ℕ) (pieces : List (List ℕ)) → covers_after (front ++ b ∷ []) pieces ≡ covers_after front (before_first b pieces)
after_byte front b [] = sym (or_none (covers_encoded (front ++ b ∷ [])))
after_byte front b (piece ∷ pieces) = ap (λ l. covers_encoded l || list_any covers_encoded pieces) (append_assoc front (b ∷ []) piece)

after_some : (pieces : List (List ℕ)) → covers_after [] pieces ≡ list_any covers_encoded pieces
after_some [] = refl
after_some (piece ∷ pieces) = refl

covers_split : (front bytes : List ℕ) → covers_encoded (front ++ bytes) ≡ covers_after front (split bytes)
covers_split front [] = sym (or_none (covers_encoded (front ++ [])))
covers_split front (b ∷ bytes) = by (b == 38) refl (covers_split [] bytes) (covers_split (front ++ b ∷ []) bytes)
  where
    by : (x : Bool) → (b == 38) ≡ x → covers_encoded bytes ≡ covers_after [] (split bytes) → covers_encoded ((front ++ b ∷ []) ++ bytes) ≡ covers_after (front ++ b ∷ []) (split bytes)
        → covers_encoded (front ++ b ∷ bytes) ≡ covers_after front (cond x ([] ∷ split bytes) (before_first b (split bytes)))
    by true e one two = covers_cut front b bytes (apart b 38 e refl) ∙ ap₂ (λ (l : List ℕ) (y : Bool). covers_encoded l || y) (sym (append-nil front)) (one ∙ after_some (split bytes))
    by false e one two = ap covers_encoded (sym (append_assoc front (b ∷ []) bytes)) ∙ two ∙ after_byte front b (split bytes)

any_left : (pieces : List (List ℕ)) → list_any covers_encoded (filter isnt_empty pieces) ≡ list_any covers_encoded pieces
any_left [] = refl
any_left ([] ∷ pieces) = any_left pieces
any_left ((b ∷ piece) ∷ pieces) = ap (λ x. covers_encoded (b ∷ piece) || x) (any_left pieces)

-- the pieces of an input
pub covers_pieces : (input : List ℕ) → covers_encoded input ≡ list_any covers_encoded (filter isnt_empty (split input))
covers_pieces input = covers_split [] input ∙ after_some (split input) ∙ sym (any_left (split input))
