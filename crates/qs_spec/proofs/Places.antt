-- A permutation by indices is one by recursion.
use Rattle.std.proofs.Common.{◌≡◌, ℕ, zero, suc, pred, ◌<◌, Bool, true, false, List, [], ◌∷◌, ◌++◌, length, refl, sym, ap, ◌∙◌, subst, arith, Some, slice_get, IsFalse}
use Rattle.std.specs.List.{AllByRecursion}
use Rattle.std.proofs.lemmas.Option.{none-some, same_Some}
use Rattle.qs_spec.specs.Permutation.{IsReordering, KeepsOrder}

-- the index in a list with one more at k, and back
abbrev skip : ℕ → ℕ → ℕ
skip zero m = suc m
skip (suc k) zero = zero
skip (suc k) (suc m) = suc (skip k m)

abbrev unskip : ℕ → ℕ → ℕ
unskip zero zero = zero
unskip zero (suc m) = m
unskip (suc k) zero = zero
unskip (suc k) (suc m) = suc (unskip k m)

unskip-skip : (k m : ℕ) → unskip k (skip k m) ≡ m
unskip-skip zero m = refl
unskip-skip (suc k) zero = refl
unskip-skip (suc k) (suc m) = ap suc (unskip-skip k m)

skip-unskip : (k x : ℕ) → (x ≡ k → ⊥) → skip k (unskip k x) ≡ x
skip-unskip zero zero n = absurd (n refl)
skip-unskip zero (suc x) n = refl
skip-unskip (suc k) zero n = refl
skip-unskip (suc k) (suc x) n = ap suc (skip-unskip k x (λ e. n (ap suc e)))

skip_not : (k m : ℕ) → skip k m ≡ k → ⊥
skip_not zero m e = omega arith
skip_not (suc k) zero e = omega arith
skip_not (suc k) (suc m) e = skip_not k m (omega arith)

unskip_keeps : (k x y : ℕ) → (x ≡ k → ⊥) → (y ≡ k → ⊥) → x < y → unskip k x < unskip k y
unskip_keeps zero zero y n m l = absurd (n refl)
unskip_keeps zero (suc x) zero n m l = absurd (m refl)
unskip_keeps zero (suc x) (suc y) n m l = omega arith
unskip_keeps (suc k) zero zero n m l = absurd (omega arith)
unskip_keeps (suc k) zero (suc y) n m l = omega arith
unskip_keeps (suc k) (suc x) zero n m l = absurd (omega arith)
unskip_keeps (suc k) (suc x) (suc y) n m l = let h : unskip k x < unskip k y = unskip_keeps k x y (λ e. n (ap suc e)) (λ e. m (ap suc e)) (omega arith) in omega arith

-- a list cut at an index
record CutAt {X : Type 0} (qs : List X) (k : ℕ) (p : X) : Type 0 where
  front : List X
  back : List X
  whole : qs ≡ front ++ p ∷ back
  len : length front ≡ k

cut_at : {X : Type 0} (qs : List X) (k : ℕ) (p : X) → slice_get qs k ≡ Some p → CutAt qs k p
cut_at [] k p e = absurd (none-some p e)
cut_at (q ∷ qs) zero p e = record { front = []; back = qs; whole = ap (λ x. x ∷ qs) (same_Some q p e); len = refl }
cut_at (q ∷ qs) (suc k) p e = let c = cut_at qs k p e in record { front = q ∷ c.front; back = c.back; whole = ap (λ l. q ∷ l) c.whole; len = ap suc c.len }

get_skip : {X : Type 0} (front back : List X) (p : X) (m : ℕ) → slice_get (front ++ back) m ≡ slice_get (front ++ p ∷ back) (skip (length front) m)
get_skip [] back p m = refl
get_skip (q ∷ front) back p zero = refl
get_skip (q ∷ front) back p (suc m) = get_skip front back p m

get_front : {X : Type 0} (front back : List X) (m : ℕ) (q : X) → slice_get front m ≡ Some q → (slice_get (front ++ back) m ≡ Some q) × (m < length front)
get_front [] back m q e = absurd (none-some q e)
get_front (x ∷ front) back zero q e = (e, omega arith)
get_front (x ∷ front) back (suc m) q e = let h = get_front front back m q e in (h.0, omega (arith, h.1))

all_from_get : {X : Type 0} (P : X → Type 0) (ps : List X) → ((m : ℕ) (q : X) → slice_get ps m ≡ Some q → P q) → AllByRecursion P ps
all_from_get P [] h = tt
all_from_get P (p ∷ ps) h = (h zero p refl, all_from_get P ps (λ m q e. h (suc m) q e))

step_back : (n : ℕ) → (n ≡ 0 → ⊥) → n ≡ suc (pred n)
step_back zero n = absurd (n refl)
step_back (suc n) h = refl

false_of : (b : Bool) → (b ≡ true → ⊥) → b ≡ false
false_of true h = absurd (h refl)
false_of false h = refl

module _ {X : Type 0} (depend : X → X → Bool) (p : X) (ps front back : List X) (h : KeepsOrder depend (p ∷ ps) (front ++ p ∷ back)) (at : length front ≡ h.to 0) where
  first_back : h.from (length front) ≡ 0
  first_back = ap h.from at ∙ h.from_to 0 p refl

  not_first : (i : ℕ) (q : X) → slice_get ps i ≡ Some q → h.to (suc i) ≡ length front → ⊥
  not_first i q e d = omega (arith, sym (h.from_to (suc i) q e) ∙ ap h.from d ∙ first_back)

  not_zero : (j : ℕ) (q : X) → slice_get (front ++ p ∷ back) j ≡ Some q → (j ≡ length front → ⊥) → h.from j ≡ 0 → ⊥
  not_zero j q e n d = n (sym (h.to_from j q e) ∙ ap h.to d ∙ sym at)

  apart : AllByRecursion (λ q. IsFalse (depend p q)) front
  apart = all_from_get _ front (λ m q e.
      let g = get_front front (p ∷ back) m q e in
      false_of (depend p q) (λ t.
      let nz : 0 < h.from m = omega (arith, step_back (h.from m) (not_zero m q g.0 (λ d. omega (arith, g.1)))) in
      let before : h.to 0 < h.to (h.from m) = h.keeps 0 (h.from m) p q nz refl (h.back m q g.0) t in
      omega (arith, g.1, h.to_from m q g.0)))

  rest : KeepsOrder depend ps (front ++ back)
  rest = record {
    to = λ i. unskip (length front) (h.to (suc i));
    from = λ m. pred (h.from (skip (length front) m));
    there = λ i q e. get_skip front back p _ ∙ ap (slice_get (front ++ p ∷ back)) (skip-unskip (length front) (h.to (suc i)) (not_first i q e)) ∙ h.there (suc i) q e;
    back = λ m q e.
        let f : slice_get (front ++ p ∷ back) (skip (length front) m) ≡ Some q = sym (get_skip front back p m) ∙ e in
        ap (slice_get (p ∷ ps)) (sym (step_back (h.from (skip (length front) m)) (not_zero (skip (length front) m) q f (skip_not (length front) m)))) ∙ h.back (skip (length front) m) q f;
    from_to = λ i q e. ap (λ x. pred (h.from x)) (skip-unskip (length front) (h.to (suc i)) (not_first i q e)) ∙ ap pred (h.from_to (suc i) q e);
    to_from = λ m q e.
        let f : slice_get (front ++ p ∷ back) (skip (length front) m) ≡ Some q = sym (get_skip front back p m) ∙ e in
        ap (λ x. unskip (length front) (h.to x)) (sym (step_back (h.from (skip (length front) m)) (not_zero (skip (length front) m) q f (skip_not (length front) m))))
        ∙ ap (unskip (length front)) (h.to_from (skip (length front) m) q f) ∙ unskip-skip (length front) m;
    keeps = λ i j q r l e f t. unskip_keeps (length front) (h.to (suc i)) (h.to (suc j)) (not_first i q e) (not_first j r f) (h.keeps (suc i) (suc j) q r (omega arith) e f t);
  }

pub by_places : {X : Type 0} (depend : X → X → Bool) (ps qs : List X) → KeepsOrder depend ps qs → IsReordering depend ps qs
by_places depend [] [] h = refl
by_places depend [] (q ∷ qs) h = absurd (none-some q (h.back 0 q refl))
by_places {X} depend (p ∷ ps) qs h =
    let c = cut_at qs (h.to 0) p (h.there 0 p refl) in
    let g = subst (λ (l : List X). (g : KeepsOrder depend (p ∷ ps) l) × (g.to 0 ≡ h.to 0)) c.whole (h, refl) in
    let at : length c.front ≡ g.0.to 0 = c.len ∙ sym g.1 in
    (c.front, c.back, c.whole, apart depend p ps c.front c.back g.0 at, by_places depend ps (c.front ++ c.back) (rest depend p ps c.front c.back g.0 at))
