-- The kit's crate `form_urlencoded` defines the same parser.
use Rattle.std.proofs.Common.{◌≡◌, ℕ, suc, ◌+◌, ◌*◌, Bool, true, false, cond, not, ◌&&◌, ◌==◌, nat_lt, List, [], ◌∷◌, length, take, drop, map, refl, sym, ap, ap₂, ◌∙◌, arith}
use Rattle.std.specs.List.{filter, position_or_len}
use Rattle.std.specs.Char.{is_digit, digit_value}
use Rattle.std.proofs.lemmas.Bool.Decides.{nat_tests}
use Rattle.percent_encoding.specs.Percent.{percent_decode}
use Rattle.form_urlencoded.specs.Form.{split as kit_split, onto_first, is_nonempty, split_pair, raw_pairs, decode, parse}
use Rattle.qs_standards.specs.PercentDecode.{percent_decoded}
use Rattle.qs_standards.specs.FormUrlencoded.{before_first, split, isnt_empty, name_bytes, value_bytes, plus_to_space, form_decoded, name_value, form_parsed}

and_assoc : (a b c : Bool) → ((a && b) && c) ≡ (a && (b && c))
and_assoc true b c = refl
and_assoc false b c = refl

decoded_same : (bytes : List ℕ) → percent_decode bytes ≡ percent_decoded bytes
unfolding percent_decode
decoded_same [] = refl
decoded_same (b ∷ []) = refl
decoded_same (b ∷ c ∷ []) = refl
decoded_same (b ∷ c ∷ e ∷ rest) =
    ap (λ x. cond x ((16 * digit_value c + digit_value e) ∷ percent_decode rest) (b ∷ percent_decode (c ∷ e ∷ rest))) (and_assoc (b == 37) (is_digit c 16) (is_digit e 16))
    ∙ ap₂ (λ (x y : List ℕ). cond (b == 37 && (is_digit c 16 && is_digit e 16)) ((16 * digit_value c + digit_value e) ∷ x) (b ∷ y)) (decoded_same rest) (decoded_same (c ∷ e ∷ rest))

first_same : (b : ℕ) (pieces : List (List ℕ)) → onto_first b pieces ≡ before_first b pieces
first_same b [] = refl
first_same b (piece ∷ pieces) = refl

split_same : (bytes : List ℕ) → kit_split 38 bytes ≡ split bytes
unfolding kit_split
split_same [] = refl
split_same (b ∷ bytes) =
    ap₂ (λ (x y : List (List ℕ)). cond (b == 38) ([] ∷ x) y) (split_same bytes) (first_same b (kit_split 38 bytes) ∙ ap (before_first b) (split_same bytes))

name_same : (s : List ℕ) → name_bytes s ≡ take (position_or_len (λ b. b == 61) s) s
name_same [] = refl
name_same (b ∷ s) = by (b == 61) (name_same s)
  where
    more : (n : ℕ) → 1 + n ≡ suc n
    more n = omega arith

    by : (x : Bool) → name_bytes s ≡ take (position_or_len (λ b. b == 61) s) s → cond x [] (b ∷ name_bytes s) ≡ take (cond (not x) (1 + position_or_len (λ b. b == 61) s) 0) (b ∷ s)
    by true h = refl
    by false h = ap (λ l. b ∷ l) h ∙ sym (ap (λ k. take k (b ∷ s)) (more (position_or_len (λ b. b == 61) s)))

value_same : (s : List ℕ) → value_bytes s ≡ drop (position_or_len (λ b. b == 61) s + 1) s
value_same [] = refl
value_same (b ∷ s) = by (b == 61) (value_same s)
  where
    more : (n : ℕ) → (1 + n) + 1 ≡ suc (n + 1)
    more n = omega arith

    by : (x : Bool) → value_bytes s ≡ drop (position_or_len (λ b. b == 61) s + 1) s → cond x s (value_bytes s) ≡ drop (cond (not x) (1 + position_or_len (λ b. b == 61) s) 0 + 1) (b ∷ s)
    by true h = refl
    by false h = h ∙ sym (ap (λ k. drop k (b ∷ s)) (more (position_or_len (λ b. b == 61) s)))

some : (b : ℕ) (s : List ℕ) → is_nonempty (b ∷ s) ≡ true
some b s = by (length s)
  where
    by : (n : ℕ) → nat_lt 0 (suc n) ≡ true
    by n = grind (arith, nat_tests)

abbrev decoded_pair : List ℕ × List ℕ → List ℕ × List ℕ
decoded_pair (name, value) = (decode name, decode value)

pair_same : (s : List ℕ) → (form_decoded (name_bytes s), form_decoded (value_bytes s)) ≡ decoded_pair (split_pair s)
pair_same s =
    ap₂ (λ (x y : List ℕ). (x, y)) (sym (decoded_same (map plus_to_space (name_bytes s)))) (sym (decoded_same (map plus_to_space (value_bytes s))))
    ∙ ap₂ (λ (x y : List ℕ). (decode x, decode y)) (name_same s) (value_same s)

pieces_same : (pieces : List (List ℕ)) → map (λ n. (n.name, n.value)) (map name_value (filter isnt_empty pieces)) ≡ map decoded_pair (map split_pair (filter is_nonempty pieces))
pieces_same [] = refl
pieces_same ([] ∷ pieces) = pieces_same pieces
pieces_same ((b ∷ s) ∷ pieces) =
    ap₂ (λ (x : List ℕ × List ℕ) (l : List (List ℕ × List ℕ)). x ∷ l) (pair_same (b ∷ s)) (pieces_same pieces)
    ∙ sym (ap (λ x. map decoded_pair (map split_pair (cond x ((b ∷ s) ∷ filter is_nonempty pieces) (filter is_nonempty pieces)))) (some b s))

pub parsed_same : (input : List ℕ) → map (λ n. (n.name, n.value)) (form_parsed input) ≡ parse input
unfolding raw_pairs
parsed_same input = pieces_same (split input) ∙ sym (ap (λ (l : List (List ℕ)). map decoded_pair (map split_pair (filter is_nonempty l))) (split_same input))
