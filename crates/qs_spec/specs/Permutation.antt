-- Permutations of a list that keep dependent elements in order.
use Rattle.std.specs.Prelude.{◌≡◌, ℕ, ◌<◌, Bool, IsTrue, IsFalse, List, [], ◌∷◌, ◌++◌, Some, slice_get}
use Rattle.std.specs.List.{AllByRecursion}

-- By indices: each element of the first list has its own index in the second list, and each index of the second list belongs to one
-- element. Of two dependent elements, the one that was first still is.
pub record KeepsOrder {X : Type 0} (depend : X → X → Bool) (xs ys : List X) : Type 0 where
  pub to : ℕ → ℕ
  pub from : ℕ → ℕ
  pub there : (i : ℕ) (x : X) → slice_get xs i ≡ Some x → slice_get ys (to i) ≡ Some x
  pub back : (j : ℕ) (y : X) → slice_get ys j ≡ Some y → slice_get xs (from j) ≡ Some y
  pub from_to : (i : ℕ) (x : X) → slice_get xs i ≡ Some x → from (to i) ≡ i
  pub to_from : (j : ℕ) (y : X) → slice_get ys j ≡ Some y → to (from j) ≡ j
  pub keeps : (i j : ℕ) (x y : X) → i < j → slice_get xs i ≡ Some x → slice_get xs j ≡ Some y → IsTrue (depend x y) → to i < to j

-- By recursion: the first element follows only elements that don't depend on it, and the rest of one list is such a permutation of
-- the rest of the other.
abbrev pub IsReordering : {X : Type 0} → (X → X → Bool) → List X → List X → Type 0
IsReordering depend [] ys = ys ≡ []
IsReordering {X} depend (x ∷ xs) ys = (front : List X) × (back : List X) × (ys ≡ front ++ x ∷ back)
    × AllByRecursion (λ y. IsFalse (depend x y)) front × IsReordering depend xs (front ++ back)
