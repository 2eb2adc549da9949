-- Several puts, one after another.
use Rattle.qs_data.proofs.Common.{◌≡◌, ℕ, ◌+◌, ◌-◌, ◌<◌, ◌≤◌, Bool, List, ◌++◌, length, take, drop, Option, sym, ap, ◌∙◌, subst, arith, length-append, length-drop, drop-drop, take-add, take-append-add, take-append-le, flat_map-append, Appends-trans, Result, Ok, Err, IsErrAnd, Appends, encoded, encoded_byte}
use Rattle.std.specs.Prelude.{IfErr}

-- one more put, where the rest is what stands after the part that was taken
pub put_step : (text rest next : List ℕ) (n : ℕ) (a b c : Option (List ℕ)) → length rest ≤ length text → rest ≡ drop (length text - length rest) text
    → n ≤ length rest → Appends a b (take (length text - length rest) text) → Appends b c (take n rest) → next ≡ drop n rest
    → (length next ≤ length text) × (next ≡ drop (length text - length next) text) × Appends a c (take (length text - length next) text)
put_step text rest next n a b c left is few before now after =
    let lens : length next ≡ length rest - n = ap length after ∙ length-drop n rest in
    let gone : length text - length rest + n ≡ length text - length next = omega (arith, lens) in
    let place = after ∙ ap (drop n) is ∙ drop-drop n (length text - length rest) text ∙ ap (λ k. drop k text) gone in
    let joined : take (length text - length rest) text ++ take n rest ≡ take (length text - length next) text =
    ap (λ r. take (length text - length rest) text ++ take n r) is ∙ sym (take-add (length text - length rest) n text) ∙ ap (λ k. take k text) gone in
    (omega (arith, lens), place, subst (Appends a c) joined (Appends-trans a b c _ _ before now))

-- what stands in the middle of a text was put in part, after all that precedes it
pub put_middle : (front middle rest whole : List ℕ) (n : ℕ) (a b c : Option (List ℕ)) → whole ≡ front ++ (middle ++ rest) → Appends a b front → n < length middle
    → Appends b c (take n middle) → (k : ℕ) × (k < length whole) × Appends a c (take k whole)
put_middle front middle rest whole n a b c is before proper now =
    let long : length whole ≡ length front + (length middle + length rest) =
    ap length is ∙ length-append front (middle ++ rest) ∙ ap (λ k. length front + k) (length-append middle rest) in
    let part : front ++ take n middle ≡ take (length front + n) whole =
    ap (λ t. front ++ t) (sym (take-append-le n middle rest (omega (arith, proper)))) ∙ sym (take-append-add front (middle ++ rest) n) ∙ ap (take (length front + n)) (sym is) in
    (length front + n, omega (arith, long, proper), subst (Appends a c) part (Appends-trans a b c _ _ before now))

pub encoded_parts : (is_form : Bool) (front piece tail : List ℕ) → encoded is_form (front ++ (piece ++ tail)) ≡ encoded is_form front ++ (encoded is_form piece ++ encoded is_form tail)
encoded_parts is_form front piece tail =
    flat_map-append (encoded_byte is_form) front (piece ++ tail) ∙ ap (λ t. encoded is_form front ++ t) (flat_map-append (encoded_byte is_form) piece tail)

-- what the exit of a `?` owes, where the error goes on as it is
pub exit_part : {T E : Type 0} (r : Result T E) (e : E) (P : E → Type 0) → IsErrAnd r (λ y. y ≡ e) → P e → IfErr r P
exit_part (Ok x) e P is part = tt
exit_part (Err y) e P is part = subst P (sym is) part
