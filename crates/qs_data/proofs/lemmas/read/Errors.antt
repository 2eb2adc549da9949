-- An error of a part as the error of the whole.
use Rattle.qs_data.proofs.Common.{◌≡◌, ℕ, List, Bool, true, false, ◌&&◌, Option, None, refl, sym, Result, Ok, Err, subst, IsErrAnd, IsUtf8, is_utf8, is_utf8-from_IsUtf8, IsUtf8-from_is_utf8, Error, Custom, Utf8, Gives, Rejects}
use Rattle.qs_tree.specs.declared.error.Error.TheVariants.{OutOfMemory}
use Rattle.qs_data.specs.read.Errors.{IsCustomOrOutOfMemory}

-- what is rejected of a part is rejected of the whole
pub rejected : {Y Z : Type 0} (t u : Bool) (e : Error) (r : Option Y) (s : Option Z) → Rejects t e r → (r ≡ None → s ≡ None) → (t ≡ false → u ≡ false) → Rejects u e s
rejected t u (Custom m) r s h n f = n h
rejected t u (Utf8 c) r s h n f = (n h.0, f h.1)
rejected t u OutOfMemory r s h n f = tt
rejected t u e r s h n f = h

not_true : (b : Bool) → (b ≡ true → ⊥) → b ≡ false
not_true true h = absurd (h refl)
not_true false h = refl

pub is_utf8_not : (b : List ℕ) → ¬ (IsUtf8 b) → is_utf8 b ≡ false
is_utf8_not b h = not_true (is_utf8 b) (λ e. h (IsUtf8-from_is_utf8 b e))

pub ruleset utf8_tests = (is_utf8_not, is_utf8-from_IsUtf8)

-- the result of a part, where the result of the whole follows from that of the part
pub gives_exit : {X Y Z : Type 0} (view : X → Y) (t u : Bool) (x : Result X Error) (e : Error) (r : Option Z) (s : Option Y)
    → IsErrAnd x (λ y. y ≡ e) → Rejects t e r → (r ≡ None → s ≡ None) → (t ≡ false → u ≡ false) → Gives view u x s
gives_exit view t u (Ok x) e r s h f n g = absurd h
gives_exit view t u (Err y) e r s h f n g = let P : Error → Type 0 = λ z. Rejects u z s in subst P (sym h) (rejected t u e r s f n g)

pub custom : {Y : Type 0} (t : Bool) (e : Error) (r : Option Y) → IsCustomOrOutOfMemory e → r ≡ None → Rejects t e r
custom t (Custom m) r h n = n
custom t OutOfMemory r h n = tt
custom t e r h n = absurd h

-- tests joined
pub and_left : (a b : Bool) → a ≡ false → (a && b) ≡ false
and_left a b h = rw h

pub and_right : (a b : Bool) → b ≡ false → (a && b) ≡ false
and_right true b h = h
and_right false b h = refl
