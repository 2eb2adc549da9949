-- An error of a part as the error of the whole, inside reading.
use Rattle.qs_data.proofs.Common.{◌≡◌, ℕ, List, Bool, false, Option, None, ◌∙◌, sym, Result, Ok, Err, subst, inl, inr, ◌==◌, list_any, IsErrAnd, cases_Bool, MatchBool-at_true, MatchBool-at_false, ReadError, ReadGives, ReadRejects, ReadIsCustom, ReadRunsOutOnlyToReject, ReadIsFrugal, error_of, Gives, Rejects, Error}
use Rattle.qs_tree.specs.Error.{IsCustomSaying}
use Rattle.qs_data.specs.declared.read.error.ReadError.TheVariants.{Custom, Utf8, OutOfMemory}
use Rattle.qs_data.specs.read.Errors.{IsCustomOrOutOfMemory, IsUtf8OrOutOfMemory}
use Rattle.qs_data.specs.read.internal.ReadError.{ReadIsUtf8}
use Rattle.qs_data.specs.read.Narrowed.{IsNarrowed, IsPassedOn}
use Rattle.qs_data.specs.read.internal.Hint.{IsKeyError, IsHinted, hinted_text}

-- what is rejected of a part is rejected of the whole
pub rejected : {Y Z : Type 0} (t u : Bool) (e : ReadError) (r : Option Y) (s : Option Z) → ReadRejects t e r → (r ≡ None → s ≡ None) → (t ≡ false → u ≡ false) → ReadRejects u e s
rejected t u (Custom m) r s h n f = n h
rejected t u (Utf8 c) r s h n f = (n h.0, f h.1)
rejected t u OutOfMemory r s h n f = tt

-- the same result, of something equal
pub gives_as : {X Y : Type 0} (view : X → Y) (t u : Bool) (x : Result X ReadError) (r s : Option Y) → ReadGives view t x r → r ≡ s → (t ≡ false → u ≡ false) → ReadGives view u x s
gives_as view t u (Ok x) r s h e f = sym e ∙ h
gives_as view t u (Err x) r s h e f = rejected t u x r s h (λ n. sym e ∙ n) f

-- the result of a part, where the result of the whole follows from that of the part
pub gives_exit : {X Y Z : Type 0} (view : X → Y) (t u : Bool) (x : Result X ReadError) (e : ReadError) (r : Option Z) (s : Option Y)
    → IsErrAnd x (λ y. y ≡ e) → ReadRejects t e r → (r ≡ None → s ≡ None) → (t ≡ false → u ≡ false) → ReadGives view u x s
gives_exit view t u (Ok x) e r s h f n g = absurd h
gives_exit view t u (Err y) e r s h f n g = let P : ReadError → Type 0 = λ z. ReadRejects u z s in subst P (sym h) (rejected t u e r s f n g)

spared : {Y Z : Type 0} (e : ReadError) (r : Option Y) (s : Option Z) → ReadRunsOutOnlyToReject e r → (r ≡ None → s ≡ None) → ReadRunsOutOnlyToReject e s
spared (Custom m) r s h n = tt
spared (Utf8 c) r s h n = tt
spared OutOfMemory r s h n = n h

pub frugal_exit : {X Y Z : Type 0} (x : Result X ReadError) (e : ReadError) (r : Option Z) (s : Option Y) → IsErrAnd x (λ y. y ≡ e) → ReadRunsOutOnlyToReject e r → (r ≡ None → s ≡ None) → ReadIsFrugal x s
frugal_exit (Ok x) e r s h f n = tt
frugal_exit (Err y) e r s h f n = let P : ReadError → Type 0 = λ z. ReadRunsOutOnlyToReject z s in subst P (sym h) (spared e r s f n)

pub custom_spared : {Y : Type 0} (e : ReadError) (r : Option Y) → r ≡ None → ReadRunsOutOnlyToReject e r
custom_spared (Custom m) r n = tt
custom_spared (Utf8 c) r n = tt
custom_spared OutOfMemory r n = n

pub custom : {Y : Type 0} (t : Bool) (e : ReadError) (r : Option Y) → ReadIsCustom e → r ≡ None → ReadRejects t e r
custom t (Custom m) r h n = n
custom t (Utf8 c) r h n = absurd h
custom t OutOfMemory r h n = tt

-- an error that was passed on rejects what it rejected
pub passed : {Y : Type 0} (t : Bool) (x : Error) (e : ReadError) (r : Option Y) → IsPassedOn x e → Rejects t x r → ReadRejects t e r
passed t x e r (inl same) h = subst (λ z. Rejects t z r) (sym same) h
passed t x e r (inr memory) h = subst (λ z. ReadRejects t z r) (sym memory) tt

pub passed_custom : (x : Error) (e : ReadError) → IsPassedOn x e → IsCustomOrOutOfMemory x → ReadIsCustom e
passed_custom x e (inl same) h = subst IsCustomOrOutOfMemory (sym same) h
passed_custom x e (inr memory) h = subst ReadIsCustom (sym memory) tt

pub passed_utf8 : (x : Error) (e : ReadError) → IsPassedOn x e → IsUtf8OrOutOfMemory x → ReadIsUtf8 e
passed_utf8 x e (inl same) h = subst IsUtf8OrOutOfMemory (sym same) h
passed_utf8 x e (inr memory) h = subst ReadIsUtf8 (sym memory) tt

-- what is known of a result is known of it with the error passed on
pub narrowed_gives : {X Y : Type 0} (view : X → Y) (t : Bool) (given : Result X Error) (x : Result X ReadError) (r : Option Y) → IsNarrowed given x → Gives view t given r → ReadGives view t x r
narrowed_gives view t given (Ok x) r is h = subst (λ g. Gives view t g r) is h
narrowed_gives view t (Ok g) (Err e) r is h = absurd is
narrowed_gives view t (Err g) (Err e) r is h = passed t g e r is h

pub ruleset passed_on = (passed, passed_custom, narrowed_gives)

-- an error with a message is `Custom`, or an allocation failed
says : (e : ReadError) (text : Option (List ℕ)) → IsCustomSaying (error_of e) text → ReadIsCustom e
says (Custom m) text h = tt
says (Utf8 c) text h = h
says OutOfMemory text h = tt

with_hint : {Y : Type 0} (t : Bool) (e reported : ReadError) (r : Option Y) → IsHinted e reported → ReadRejects t e r → ReadRejects t reported r
with_hint t (Custom m) reported r h f = custom t reported r (says reported (hinted_text (error_of (Custom m))) h) f
with_hint t (Utf8 c) reported r h f = custom t reported r (says reported (hinted_text (error_of (Utf8 c))) h) f.0
with_hint t OutOfMemory reported r h f = subst (λ x. ReadRejects t x r) (sym h) tt

-- a key's error is reported where the key is rejected
pub key_error : {Y : Type 0} (t : Bool) (key : List ℕ) (e reported : ReadError) (r : Option Y) → IsKeyError key e reported → ReadRejects t e r → ReadRejects t reported r
key_error t key e reported r h f = elim (cases_Bool (list_any (λ b. b == 91) key)) [
  | inl is ↦ with_hint t e reported r (MatchBool-at_true (IsHinted e reported) (reported ≡ e) is h) f
  | inr not ↦ subst (λ x. ReadRejects t x r) (sym (MatchBool-at_false (IsHinted e reported) (reported ≡ e) not h)) f
]
