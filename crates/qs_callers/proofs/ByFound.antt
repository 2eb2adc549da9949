-- What holds of the value of a result, by another value.
use Rattle.std.proofs.Common.{◌≡◌, Result, Ok, Err, IfOk, refl}

pub by_found : {A X E : Type 0} (IsFound : A → Type 0) (Q : A → X → Type 0) (found : A) → IsFound found → (result : Result X E) → ((x : X) → result ≡ Ok x → Q found x)
    → IfOk result (λ x. (a : A) × IsFound a × Q a x)
by_found IsFound Q found is (Ok x) holds = (found, is, holds x refl)
by_found IsFound Q found is (Err e) holds = tt
