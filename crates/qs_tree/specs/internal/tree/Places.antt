-- The index of a key among sorted entries, or the index at which to insert it.
use Rattle.std.specs.Prelude.{◌≡◌, ℕ, zero, suc, ◌<◌, ◌≤◌, List, [], ◌∷◌, length, slice_index_or, Result, Ok, Err}
use Rattle.std.proofs.Common.{Ordering, Less, Equal, Greater}
use Rattle.std.specs.Map.{keys_of}

-- how k compares to the j-th key
abbrev pub against : {K X : Type 0} → (K → K → Ordering) → K → List (K × X) → ℕ → Ordering
against cmp k es j = cmp k (slice_index_or (keys_of es) j k)

module _ {K X : Type 0} (cmp : K → K → Ordering) (k : K) (es : List (K × X)) (i : ℕ) where
  -- the key is at index i
  pub record IsHit : Type 0 where
    pub in_range : i < length es
    pub same : against cmp k es i ≡ Equal
    pub before : (j : ℕ) → j < i → against cmp k es j ≡ Greater

  -- the key is missing, and is to be inserted at index i
  pub record IsGap : Type 0 where
    pub in_range : i ≤ length es
    pub before : (j : ℕ) → j < i → against cmp k es j ≡ Greater
    pub after : (j : ℕ) → i ≤ j → j < length es → against cmp k es j ≡ Less

-- the index of the key, or as `Err` the index at which to insert it
abbrev pub IsPlaced : {K X : Type 0} → (K → K → Ordering) → K → List (K × X) → Result ℕ ℕ → Type 0
IsPlaced cmp k es (Ok i) = IsHit cmp k es i
IsPlaced cmp k es (Err i) = IsGap cmp k es i

-- the entries with w as the value of the i-th
abbrev pub put_value : {K X : Type 0} → List (K × X) → ℕ → X → List (K × X)
put_value [] i w = []
put_value (e ∷ es) zero w = (e.0, w) ∷ es
put_value (e ∷ es) (suc i) w = e ∷ put_value es i w
