-- What is found step by step.
use Rattle.std.proofs.Common.{◌≡◌, ℕ, List, true, false, Bool, cond, ap, ◌∙◌}
use Rattle.qs_c.specs.Found.{Found, found, fault, and_then, seen}

pub then-found : {A B : Type 0} (x : Found A) (f : A → List ℕ → Found B) (y : Found B) (a : A) (r : List ℕ) → x ≡ found a r → f a r ≡ y → and_then x f ≡ y
unfolding and_then
then-found x f y a r e g = ap (λ z. and_then z f) e ∙ g

pub then-fault : {A B : Type 0} (x : Found A) (f : A → List ℕ → Found B) (why r : List ℕ) → x ≡ fault why r → and_then x f ≡ fault why r
unfolding and_then
then-fault x f why r e = ap (λ z. and_then z f) e

pub seen-found : {A B : Type 0} (x : Found A) (f : A → B) (a : A) (r : List ℕ) → x ≡ found a r → seen f x ≡ found (f a) r
unfolding seen
seen-found x f a r e = ap (seen f) e

pub seen-fault : {A B : Type 0} (x : Found A) (f : A → B) (why r : List ℕ) → x ≡ fault why r → seen f x ≡ fault why r
unfolding seen
seen-fault x f why r e = ap (seen f) e

pub cond-true : {A : Type 0} (b : Bool) (x y z : A) → b ≡ true → x ≡ z → cond b x y ≡ z
cond-true b x y z e h = ap (λ c. cond c x y) e ∙ h

pub cond-false : {A : Type 0} (b : Bool) (x y z : A) → b ≡ false → y ≡ z → cond b x y ≡ z
cond-false b x y z e h = ap (λ c. cond c x y) e ∙ h

pub ruleset steps = (then-found, then-fault, seen-found, seen-fault, cond-true, cond-false)
