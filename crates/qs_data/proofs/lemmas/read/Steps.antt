-- Steps of a loop that reads part by part.
use Rattle.qs_data.proofs.Common.{◌≡◌, List, [], ◌∷◌, ◌++◌, Option, Some, None, refl, sym, ap, append_assoc, option_map, with_front}

-- what was read, in front of what is read of the rest
abbrev pub before : {A : Type 0} → List A → Option (List A) → Option (List A)
before xs r = option_map (λ ys. xs ++ ys) r

pub before-front : {A : Type 0} (xs : List A) (x : A) (r : Option (List A)) → before xs (with_front x r) ≡ before (xs ++ x ∷ []) r
before-front xs x None = refl
before-front xs x (Some ys) = ap Some (sym (append_assoc xs (x ∷ []) ys))
