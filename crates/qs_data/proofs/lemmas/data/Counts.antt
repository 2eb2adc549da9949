-- How many elements a list has, and whether there are any.
use Rattle.qs_data.proofs.Common.{◌≡◌, ◌==◌, false, not, List, [], ◌∷◌, length, refl, sym, ap, arith, String, Global, count, has_values, has_members, values_in, members_in, Data}
use Rattle.std.proofs.Math.Dec.{eqb-suc-zero}

pub count_is : (xs : List Data) → count (values_in xs) ≡ length xs
count_is [] = refl
count_is (x ∷ xs) = let e = count_is xs in grind (arith, e)

pub not_empty : {X : Type 0} (x : X) (xs : List X) → (length (x ∷ xs) == 0) ≡ false
not_empty x xs = eqb-suc-zero (length xs)

pub some_values : (xs : List Data) → has_values (values_in xs) ≡ not (length xs == 0)
some_values [] = refl
some_values (x ∷ xs) = sym (ap not (not_empty x xs))

pub some_members : (xs : List (String Global × Data)) → has_members (members_in xs) ≡ not (length xs == 0)
some_members [] = refl
some_members (x ∷ xs) = sym (ap not (not_empty x xs))
