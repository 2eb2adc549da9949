-- What `parse` reads as a whole number is what the meaning reads.
use Rattle.std.proofs.Common.{ℕ, ◌≡◌, ◌≢◌, suc, ◌+◌, ◌*◌, ◌-◌, ◌^◌, ◌<◌, ◌≤◌, Bool, true, false, ◌&&◌, leb, ltb, cond, List, [], ◌∷◌, length, get_or, drop, Option, None, Some, Result, Ok, Err, refl, sym, ap, ◌∙◌, subst, inl, inr, arith, rules}
use Rattle.std.specs.Prelude.{fold, nat_le, ◌==◌}
use Rattle.std.specs.List.{list_all}
use Rattle.std.specs.Result.{OkIff, result_ok}
use Rattle.std.specs.Str.Parse.{ParsesUnsigned}
use Rattle.std.proofs.lemmas.Bool.{le-leb, false≢true}
use Rattle.std.proofs.lemmas.Bool.Decides.{leb_tells, eqb_tells}
use Rattle.std.proofs.lemmas.Str.Parse.{IsNumeralModel, numerals_by_fold, parse_plain, parse_plus}
use Rattle.qs_spec.specs.Escape.{is_between}
use Rattle.qs_spec.specs.Segment.{number}
use Rattle.qs_spec.specs.Scalar.{numeral_up_to, unsigned_number}

abbrev are_digits : List ℕ → Type 0
are_digits ds = list_all (is_between 48 57) ds ≡ true

own : IsNumeralModel are_digits number
own = numerals_by_fold are_digits (search rules) (λ n ds. fold (λ m b. 10 * m + (b - 48)) n ds) (search rules)

omega_none : (n : ℕ) → (n < 2 ^ 64 → ⊥) → nat_le n (2 ^ 64 - 1) ≡ false
omega_none n big = elim (leb_tells n (2 ^ 64 - 1)) [ inl t ↦ absurd (big (omega (arith, t.1))) | inr f ↦ f.0 ]

-- the number where it is a numeral that fits, else none
decided : {E : Type 0} (p : Bool) (n m : ℕ) (r : Result ℕ E) → OkIff r ((p ≡ true) × (0 < suc m) × (n < 2 ^ 64)) n
    → result_ok r ≡ cond (p && nat_le n (2 ^ 64 - 1)) (Some n) None
decided false n m (Ok x) h = absurd (false≢true h.0.0)
decided false n m (Err e) h = refl
decided true n m (Ok x) h = let e : nat_le n (2 ^ 64 - 1) ≡ true = le-leb n _ (omega arith) in rw e (ap Some h.1)
decided true n m (Err e) h = let e : nat_le n (2 ^ 64 - 1) ≡ false = omega_none n (λ small. h (refl, omega arith, small)) in rw e refl

-- the same of a list of bytes
numeral : {E : Type 0} (ds : List ℕ) (r : Result ℕ E) → OkIff r (are_digits ds × (0 < length ds) × (number ds < 2 ^ 64)) (number ds)
    → result_ok r ≡ numeral_up_to (2 ^ 64 - 1) ds
numeral [] (Ok x) h = absurd (omega (arith, h.0.1))
numeral [] (Err e) h = refl
numeral (b ∷ ds) r h = decided (list_all (is_between 48 57) (b ∷ ds)) (number (b ∷ ds)) (length ds) r h

pub parsed : {E : Type 0} (bs : List ℕ) (r : Result ℕ E) → ParsesUnsigned 64 10 bs r → result_ok r ≡ unsigned_number 64 bs
parsed [] r h = numeral [] r (parse_plain own 64 [] r h (λ e. absurd (omega (arith, e))))
parsed (b ∷ ds) r h =
    elim (eqb_tells b 43) [
      | inl t ↦ rw t.0 (numeral ds r (parse_plus own 64 (b ∷ ds) r h t.1))
      | inr f ↦ rw f.0 (numeral (b ∷ ds) r (parse_plain own 64 (b ∷ ds) r h f.1))
    ]
