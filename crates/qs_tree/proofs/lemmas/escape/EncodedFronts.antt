-- How many bytes `encoded` has, and what it is up to an escape, and after one.
use Rattle.qs_tree.proofs.Common.{count_by-le-length, Some, None, position, position-Some, append-nil, is_encoded, ◌≡◌, ℕ, zero, suc, ◌+◌, ◌*◌, ◌/◌, ◌%◌, ◌<◌, ◌≤◌, true, false, Bool, List, [], ◌∷◌, ◌++◌, map, length, get_or, take, drop, refl, sym, ap, ◌∙◌, arith, ◌||◌, ◌==◌, inl, inr, Fits, w8, cond, count_by, AllByRecursion, digit_glyph, sum_by-cons, cond-true, cond-false, not-true, not-false, cases_Bool, or_both, decoded, encoded, encoded_byte, escape, is_kept_in_query, is_escaped, NoneBetween, swapped, length-append, eqb-true}
use Rattle.qs_spec.proofs.Unescaped.{decoded-encoded}
use Rattle.qs_tree.proofs.lemmas.escape.FirstPlace.{all_fail}
use Rattle.std.proofs.Math.Seq.{take-length, drop-length}
use Rattle.percent_encoding.specs.Percent.{percent_encode_byte}

pub escape_is : (b : ℕ) → b < 256 → percent_encode_byte b ≡ escape b
unfolding percent_encode_byte
escape_is b small =
    let same : b / 16 % 16 ≡ b / 16 = omega arith in
    ap (λ high. 37 ∷ digit_glyph true high ∷ digit_glyph true (b % 16) ∷ []) same

pub byte_escaped : (is_form : Bool) (b : ℕ) → is_escaped is_form b ≡ true → encoded_byte is_form b ≡ escape b
byte_escaped true b is = cond-false _ _ _ (not-true _ is)
byte_escaped false b is =
    let neither = or_both (is_kept_in_query b) (b == 32) (not-true _ is) in
    cond-false _ _ _ neither.0 ∙ cond-false _ _ _ neither.1

one_of : (x y : Bool) → (x || y) ≡ true → y ≡ false → x ≡ true
one_of true y some none = refl
one_of false y some none = absurd (cc)

pub byte_not_escaped : (is_form : Bool) (b : ℕ) → is_escaped is_form b ≡ false → encoded_byte is_form b ≡ swapped 32 43 b ∷ []
byte_not_escaped true b is =
    elim (cases_Bool (b == 32)) [
      | inl space ↦ let escaped : is_escaped true b ≡ true = ap (is_escaped true) (eqb-true b 32 space) in absurd (cc)
      | inr other ↦ cond-true _ _ _ (not-false _ is) ∙ ap (λ x. x ∷ []) (sym (cond-false _ _ _ other))
    ]
byte_not_escaped false b is =
    elim (cases_Bool (b == 32)) [
      | inl space ↦ ap (encoded_byte false) (eqb-true b 32 space) ∙ sym (ap (λ x. swapped 32 43 x ∷ []) (eqb-true b 32 space))
      | inr other ↦ cond-true _ _ _ (one_of (is_kept_in_query b) (b == 32) (not-false _ is) other) ∙ ap (λ x. x ∷ []) (sym (cond-false _ _ _ other))
    ]

-- bytes up to an escape
pub encoded_run : (is_form : Bool) (n : ℕ) (bs : List ℕ) → n ≤ length bs → NoneBetween (is_escaped is_form) bs 0 n
    → encoded is_form bs ≡ map (swapped 32 43) (take n bs) ++ encoded is_form (drop n bs)
encoded_run is_form zero bs within ignoring_escapes = refl
encoded_run is_form (suc n) [] within ignoring_escapes = absurd (omega arith)
encoded_run is_form (suc n) (b ∷ bs) within ignoring_escapes =
    ap (λ x. x ++ encoded is_form bs) (byte_not_escaped is_form b (ignoring_escapes 0 (omega arith) (omega arith)))
    ∙ ap (λ x. swapped 32 43 b ∷ x) (encoded_run is_form n bs (omega arith) (λ k from to. ignoring_escapes (suc k) (omega arith) (omega arith)))

-- bytes that aren't changed
byte_kept : (is_form : Bool) (b : ℕ) → is_encoded is_form b ≡ false → encoded_byte is_form b ≡ b ∷ []
byte_kept true b is = cond-true _ _ _ (not-false _ is)
byte_kept false b is = cond-true _ _ _ (not-false _ is)

kept_run : (is_form : Bool) (n : ℕ) (bs : List ℕ) → n ≤ length bs → NoneBetween (is_encoded is_form) bs 0 n → encoded is_form bs ≡ take n bs ++ encoded is_form (drop n bs)
kept_run is_form zero bs within kept = refl
kept_run is_form (suc n) [] within kept = absurd (omega arith)
kept_run is_form (suc n) (b ∷ bs) within kept =
    ap (λ x. x ++ encoded is_form bs) (byte_kept is_form b (kept 0 (omega arith) (omega arith)))
    ∙ ap (λ x. b ∷ x) (kept_run is_form n bs (omega arith) (λ k from to. kept (suc k) (omega arith) (omega arith)))

-- bytes before the first that is changed
pub from_first : (is_form : Bool) (bs : List ℕ) (n m : ℕ) → Some n ≡ position (is_encoded is_form) bs → m ≤ n → encoded is_form bs ≡ take m bs ++ encoded is_form (drop m bs)
from_first is_form bs n m is few =
    let at = position-Some (is_encoded is_form) bs n 0 (sym is) in
    kept_run is_form m bs (omega (arith, at.0, few)) (λ k from to. at.2 k (omega (arith, to, few)))

-- bytes none of which is changed
pub none_encoded : (is_form : Bool) (bs : List ℕ) → None ≡ position (is_encoded is_form) bs → encoded is_form bs ≡ bs
none_encoded is_form bs is =
    kept_run is_form (length bs) bs (omega arith) (λ k from to. all_fail (is_encoded is_form) bs is k to)
    ∙ ap (λ rest. take (length bs) bs ++ encoded is_form rest) (drop-length bs) ∙ append-nil _ ∙ take-length bs

-- after an escape
pub encoded_escape : (is_form : Bool) (bs : List ℕ) → 0 < length bs → is_escaped is_form (get_or bs 0 0) ≡ true
    → encoded is_form bs ≡ escape (get_or bs 0 0) ++ encoded is_form (drop 1 bs)
encoded_escape is_form [] some is = absurd (omega arith)
encoded_escape is_form (b ∷ bs) some is = ap (λ x. x ++ encoded is_form bs) (byte_escaped is_form b is)

-- an escape takes two bytes more
pub length_encoded : (is_form : Bool) (bs : List ℕ) → length (encoded is_form bs) ≡ length bs + 2 * count_by (is_escaped is_form) bs
length_encoded is_form [] = refl
length_encoded is_form (b ∷ bs) =
    let counted = sum_by-cons (λ x. cond (is_escaped is_form x) 1 0) b bs in
    elim (cases_Bool (is_escaped is_form b)) [
      | inl escaped ↦ omega (arith, length-append (encoded_byte is_form b) (encoded is_form bs), ap length (byte_escaped is_form b escaped), length_encoded is_form bs, cond-true {A = ℕ} (is_escaped is_form b) 1 0 escaped)
      | inr ignoring_escapes ↦ omega (arith, length-append (encoded_byte is_form b) (encoded is_form bs), ap length (byte_not_escaped is_form b ignoring_escapes), length_encoded is_form bs, cond-false {A = ℕ} (is_escaped is_form b) 1 0 ignoring_escapes)
    ]

-- each byte takes at most three
pub encoded_few : (is_form : Bool) (bs : List ℕ) → length (encoded is_form bs) ≤ 3 * length bs
encoded_few is_form bs = omega (arith, length_encoded is_form bs, count_by-le-length (is_escaped is_form) bs)

all_bytes : (bs : List ℕ) → ((k : ℕ) → Fits w8 (get_or bs k 0)) → AllByRecursion (λ b. b < 256) bs
all_bytes [] fits = tt
all_bytes (b ∷ bs) fits = ((fits 0).fits, all_bytes bs (λ k. fits (suc k)))

-- what is encoded is decoded to itself
pub comes_back : (is_form : Bool) (bs : List ℕ) → ((k : ℕ) → Fits w8 (get_or bs k 0)) → decoded (encoded is_form bs) ≡ bs
comes_back is_form bs fits = decoded-encoded is_form bs (all_bytes bs fits)
