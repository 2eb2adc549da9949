-- The first index at which a test passes, from the elements before it, and back.
use Rattle.qs_tree.proofs.Common.{◌≡◌, ℕ, Option, ◌<◌, ◌≤◌, true, false, Bool, List, length, take, get_or, ap, ◌∙◌, arith, sym, Some, None, ltb, inl, inr, is_some, position_or_len, position, list_any, cond-true, cond-false, lt-ltb, le-ltb, cases_Bool, ltb-false, position_or_len_is, fails_before_first, All-from_get_or, list_any_none, NoneBetween, get_or-take, length-take-le, position-Some}
use Rattle.std.proofs.lemmas.List.Folds.{list_any_at}

pub position-some : (p : ℕ → Bool) (xs : List ℕ) (n : ℕ) → n < length xs → NoneBetween p xs 0 n → p (get_or xs n 0) ≡ true → Some n ≡ position p xs
position-some p xs n inside none passes =
    let at = position_or_len_is p xs n 0 (omega arith) (λ k below. none k (omega arith) below) (λ _. passes) in
    sym (cond-true _ _ _ (lt-ltb (position_or_len p xs) (length xs) (omega (arith, at))) ∙ ap (λ k. Some k) at)

pub position-none : (p : ℕ → Bool) (xs : List ℕ) → NoneBetween p xs 0 (length xs) → None ≡ position p xs
position-none p xs none =
    let at = position_or_len_is p xs (length xs) 0 (omega arith) (λ k below. none k (omega arith) below) (λ lt. absurd (omega arith)) in
    sym (cond-false _ _ _ (le-ltb (position_or_len p xs) (length xs) (omega (arith, at))))

-- where none was found, each element fails
pub all_fail : (p : ℕ → Bool) (xs : List ℕ) → None ≡ position p xs → (k : ℕ) → k < length xs → p (get_or xs k 0) ≡ false
all_fail p xs is k below =
    elim (cases_Bool (ltb (position_or_len p xs) (length xs))) [
      | inl found ↦ let at = is ∙ cond-true _ _ _ found in absurd (cc)
      | inr missing ↦ fails_before_first p xs k 0 (omega (arith, ltb-false (position_or_len p xs) (length xs) missing))
    ]

-- where none of the first elements passes, none passes in the front
pub none_in_front : (p : ℕ → Bool) (xs : List ℕ) (n : ℕ) → n ≤ length xs → NoneBetween p xs 0 n → list_any p (take n xs) ≡ false
none_in_front p xs n within none =
    let long = length-take-le n xs within in
    list_any_none p (take n xs) (All-from_get_or (λ x. p x ≡ false) (take n xs) 0 (λ k below.
    let inside : k < n = omega (arith, below, long) in rw (get_or-take n xs k 0 inside) (none k (omega arith) inside)))

-- an index is found exactly where an element passes
pub is_found : (p : ℕ → Bool) (xs : List ℕ) (r : Option ℕ) → r ≡ position p xs → is_some r ≡ list_any p xs
is_found p xs None is = sym (list_any_none p xs (All-from_get_or (λ x. p x ≡ false) xs 0 (all_fail p xs is)))
is_found p xs (Some n) is = let at = position-Some p xs n 0 (sym is) in sym (list_any_at p xs n 0 at.0 at.1)
