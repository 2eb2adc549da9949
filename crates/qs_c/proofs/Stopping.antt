-- Where a text isn't parsed on, step by step.
use Rattle.std.proofs.Common.{◌≡◌, ℕ, zero, suc, ◌+◌, ◌<◌, List, refl, ap, sym, subst, ◌∙◌, arith, Result, Ok, Err}
use Rattle.std.specs.Result.{IsErrAnd}
use Rattle.qs_c.specs.declared.notation.stop.Stop.{Stop}
use Rattle.qs_c.specs.declared.notation.stop.Stop.TheVariants.{Fault, OutOfMemory}
use Rattle.qs_c.specs.Found.{Found, found, fault, Parser, and_then, seen, before}
use Rattle.qs_c.specs.internal.Parses.{Parses, Stops}
use Rattle.qs_c.specs.Notation.{goes_on, listed, options, base, shape}
use Rattle.qs_c.proofs.Found.{then-fault, then-found}

-- What stops at the same fault stops there too.
pub stops-same : {A B : Type 0} (x : Found A) (y : Found B) (stop : Stop) (r : List ℕ) → Stops x stop r → ((why rest : List ℕ) → x ≡ fault why rest → y ≡ fault why rest) → Stops y stop r
stops-same x y (Fault reason) r h f = f reason.now r h
stops-same x y OutOfMemory r h f = tt

-- a function returns where a part of it stopped
pub exits : {A B C : Type 0} (view : A → B) (x : Result A Stop) (part : Found C) (expected : Found B) (stop : Stop) (r : List ℕ)
    → IsErrAnd x (λ y. y ≡ stop) → Stops part stop r → ((why rest : List ℕ) → part ≡ fault why rest → expected ≡ fault why rest) → Parses view expected x r
exits view (Ok a) part expected stop r is h f = absurd is
exits view (Err y) part expected stop r is h f = subst (λ z. Stops expected z r) (sym is) (stops-same part expected stop r h f)

-- a list, at one of it
one-fault : {A : Type 0} (one : Parser A) (sign : ℕ) (reason : List ℕ) (n : ℕ) (t why r : List ℕ) → 0 < n → one t ≡ fault why r → listed one sign reason n t ≡ fault why r
unfolding listed
one-fault one sign reason zero t why r k h = let never : ⊥ = omega arith in absurd never
one-fault one sign reason (suc n) t why r k h = then-fault (one t) _ why r h

-- at what follows it
sign-fault : {A : Type 0} (one : Parser A) (sign : ℕ) (reason : List ℕ) (n : ℕ) (t : List ℕ) (a : A) (s why r : List ℕ)
    → 0 < n → one t ≡ found a s → goes_on sign reason s ≡ fault why r → listed one sign reason n t ≡ fault why r
unfolding listed
sign-fault one sign reason zero t a s why r k e h = let never : ⊥ = omega arith in absurd never
sign-fault one sign reason (suc n) t a s why r k e h = then-found (one t) _ (fault why r) a s e (then-fault (goes_on sign reason s) _ why r h)

-- after what was found before
module _ {A : Type 0} (one : Parser A) (sign : ℕ) (reason : List ℕ) (whole : Found (List A)) (front : List A) (n : ℕ) (t : List ℕ) (is : whole ≡ before front (listed one sign reason n t)) where
  seen-too : (why r : List ℕ) → listed one sign reason n t ≡ fault why r → whole ≡ fault why r
  unfolding seen
  seen-too why r h = is ∙ ap (before front) h

  pub turn-fault : 0 < n → (why r : List ℕ) → one t ≡ fault why r → whole ≡ fault why r
  turn-fault k why r h = seen-too why r (one-fault one sign reason n t why r k h)

  pub turn-sign : 0 < n → (a : A) (s : List ℕ) → one t ≡ found a s → (why r : List ℕ) → goes_on sign reason s ≡ fault why r → whole ≡ fault why r
  turn-sign k a s e why r h = seen-too why r (sign-fault one sign reason n t a s why r k e h)

  -- where there is no room for one more
  pub turn-none : n ≡ 0 → whole ≡ fault reason t
  unfolding listed
  turn-none k = seen-too reason t (ap (λ m. listed one sign reason m t) k)

pub before-fault : {A : Type 0} (front : List A) (r : Found (List A)) (why rest : List ℕ) → before front r ≡ fault why rest → r ≡ fault why rest
unfolding seen
before-fault front (found xs s) why rest h = absurd cc
before-fault front (fault w s) why rest h = h

-- a shape below the limit
pub shape-fault : (n m : ℕ) (t why r : List ℕ) → m + 1 ≡ n → base (shape m) t ≡ fault why r → shape n t ≡ fault why r
unfolding shape
shape-fault zero m t why r k e = let never : ⊥ = omega (arith, k) in absurd never
shape-fault (suc n) m t why r k e =
    let same : m ≡ n = omega (arith, k) in
    let opened : shape (suc n) t ≡ and_then (base (shape n) t) (options n) = refl in
    opened ∙ then-fault (base (shape n) t) (options n) why r (ap (λ l. base (shape l) t) (sym same) ∙ e)
