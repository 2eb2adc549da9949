-- What a binary search finds among entries in order, and what an edit at that index does.
use Rattle.qs_tree.proofs.Common.{append_assoc, map-append, ◌≡◌, ℕ, zero, suc, ◌+◌, ◌<◌, ◌≤◌, ◌/◌, List, [], ◌∷◌, ◌++◌, length, get_or, slice_get, slice_set, Some, None, unwrap_or, option_map, Ordering, Less, Equal, Greater, refl, sym, ap, subst, ◌∙◌, inl, inr, cases_lt, arith, IsTotalOrder, insert, remove, AllByRecursion, IsStrictlySortedBy, keys_of, lookup, set_value, remove_entry, is_at, insert_entry, ordering_reverse, against, IsHit, IsGap, put_value, binary_digits, true, is_lt, Less-from_sorted, sorted_from_all_adjacent, sorted_head, sorted_tail}
use Rattle.std.specs.List.{AllAdjacentBelow}
use Rattle.std.proofs.lemmas.Int.Digits.{length-digits_of_step}
use Rattle.std.proofs.lemmas.Map.Entries.{length-keys_of}
use Rattle.std.proofs.Math.ListN.{get_or-map}

-- the key of an entry that was read
pub key_at : {K X : Type 0} (es : List (K × X)) (m : ℕ) (x : K × X) (k : K) → m < length es → x ≡ get_or es m x → get_or (keys_of es) m k ≡ x.0
key_at [] m x k lt is = absurd (omega arith)
key_at (e ∷ es) zero x k lt is = ap (λ (y : _ × _). y.0) (sym is)
key_at (e ∷ es) (suc m) x k lt is = key_at es m x k (omega arith) is

module _ {K X : Type 0} {cmp : K → K → Ordering} (total : IsTotalOrder cmp) (k : K) (es : List (K × X)) (sorted : IsStrictlySortedBy cmp (keys_of es)) where
  abbrev key : ℕ → K
  key j = get_or (keys_of es) j k

  rises : (i j : ℕ) → i < j → j < length es → cmp (key i) (key j) ≡ Less
  rises i j lt in_range = Less-from_sorted cmp (keys_of es) i j k sorted lt (omega (arith, in_range, length-keys_of es))

  pub before_middle : (m : ℕ) → m < length es → against cmp k es m ≡ Greater → (j : ℕ) → j < m + 1 → against cmp k es j ≡ Greater
  before_middle m in_range more j lt = elim (cases_lt j m) [
    | inl below ↦ total.antisymm k (key j) ∙ ap ordering_reverse (total.trans (key j) (key m) k (rises j m below in_range) (total.antisymm (key m) k ∙ ap ordering_reverse more))
    | inr le ↦ let same : m ≡ j = omega arith in subst (λ i. against cmp k es i ≡ Greater) same more
  ]

  pub after_middle : (m : ℕ) → against cmp k es m ≡ Less → (j : ℕ) → m ≤ j → j < length es → against cmp k es j ≡ Less
  after_middle m less j le in_range = elim (cases_lt m j) [
    | inl above ↦ total.trans k (key m) (key j) less (rises m j above in_range)
    | inr ge ↦ let same : m ≡ j = omega arith in subst (λ i. against cmp k es i ≡ Less) same less
  ]

  pub hit : (m : ℕ) → m < length es → against cmp k es m ≡ Equal → IsHit cmp k es m
  hit m in_range same = record {
    in_range = in_range;
    same = same;
    before = λ j lt. total.congr k (key m) (key j) same ∙ total.antisymm (key m) (key j) ∙ ap ordering_reverse (rises j m lt in_range);
  }

module _ {K X : Type 0} (cmp : K → K → Ordering) (k : K) where
  pub hit_tail : (e : K × X) (es : List (K × X)) (i : ℕ) → IsHit cmp k (e ∷ es) (suc i) → IsHit cmp k es i
  hit_tail e es i h = record { in_range = omega (arith, h.in_range); same = h.same; before = λ j lt. h.before (suc j) (omega arith) }

  pub gap_tail : (e : K × X) (es : List (K × X)) (i : ℕ) → IsGap cmp k (e ∷ es) (suc i) → IsGap cmp k es i
  gap_tail e es i h = record { in_range = omega (arith, h.in_range); before = λ j lt. h.before (suc j) (omega arith); after = λ j le lt. h.after (suc j) (omega arith) (omega arith) }

  pub gap_first : (e : K × X) (es : List (K × X)) → IsGap cmp k (e ∷ es) 0 → IsGap cmp k es 0
  gap_first e es h = record { in_range = omega arith; before = λ j lt. absurd (omega arith); after = λ j le lt. h.after (suc j) (omega arith) (omega arith) }

  pub hit_lookup : (es : List (K × X)) (i : ℕ) → IsHit cmp k es i → lookup (is_at (cmp k)) es ≡ option_map (λ e. e.1) (slice_get es i)
  hit_lookup [] i h = absurd (omega (arith, h.in_range))
  hit_lookup (e ∷ es) zero h = rw h.same
  hit_lookup (e ∷ es) (suc i) h = rw (h.before 0 (omega arith)) (hit_lookup es i (hit_tail e es i h))

  pub hit_set : (es : List (K × X)) (i : ℕ) (w : X) → IsHit cmp k es i → set_value (is_at (cmp k)) es w ≡ put_value es i w
  hit_set [] i w h = absurd (omega (arith, h.in_range))
  hit_set (e ∷ es) zero w h = rw h.same
  hit_set (e ∷ es) (suc i) w h = rw (h.before 0 (omega arith)) (ap (λ l. e ∷ l) (hit_set es i w (hit_tail e es i h)))

  pub hit_remove : (es : List (K × X)) (i : ℕ) → IsHit cmp k es i → remove_entry (is_at (cmp k)) es ≡ remove es i
  hit_remove [] i h = absurd (omega (arith, h.in_range))
  hit_remove (e ∷ es) zero h = rw h.same
  hit_remove (e ∷ es) (suc i) h = rw (h.before 0 (omega arith)) (ap (λ l. e ∷ l) (hit_remove es i (hit_tail e es i h)))

  pub hit_value : (es : List (K × X)) (i : ℕ) (v : X) → IsHit cmp k es i → option_map (λ e. e.1) (slice_get es i) ≡ Some (unwrap_or (lookup (is_at (cmp k)) es) v)
  hit_value [] i v h = absurd (omega (arith, h.in_range))
  hit_value (e ∷ es) zero v h = rw h.same refl
  hit_value (e ∷ es) (suc i) v h = rw (h.before 0 (omega arith)) (hit_value es i v (hit_tail e es i h))

  pub gap_lookup : (es : List (K × X)) (i : ℕ) → IsGap cmp k es i → lookup (is_at (cmp k)) es ≡ None
  gap_lookup [] i h = refl
  gap_lookup (e ∷ es) zero h = rw (h.after 0 (omega arith) (omega arith)) (gap_lookup es 0 (gap_first e es h))
  gap_lookup (e ∷ es) (suc i) h = rw (h.before 0 (omega arith)) (gap_lookup es i (gap_tail e es i h))

  pub gap_remove : (es : List (K × X)) (i : ℕ) → IsGap cmp k es i → remove_entry (is_at (cmp k)) es ≡ es
  gap_remove [] i h = refl
  gap_remove (e ∷ es) zero h = rw (h.after 0 (omega arith) (omega arith)) (ap (λ l. e ∷ l) (gap_remove es 0 (gap_first e es h)))
  gap_remove (e ∷ es) (suc i) h = rw (h.before 0 (omega arith)) (ap (λ l. e ∷ l) (gap_remove es i (gap_tail e es i h)))

  pub gap_insert : (es : List (K × X)) (i : ℕ) (v : X) → IsGap cmp k es i → insert_entry cmp es k v ≡ insert es i (k, v)
  gap_insert [] zero v h = refl
  gap_insert [] (suc i) v h = absurd (omega (arith, h.in_range))
  gap_insert (e ∷ es) zero v h = rw (h.after 0 (omega arith) (omega arith))
  gap_insert (e ∷ es) (suc i) v h = rw (h.before 0 (omega arith)) (ap (λ l. e ∷ l) (gap_insert es i v (gap_tail e es i h)))

  pub hit_insert : (es : List (K × X)) (i : ℕ) (v : X) → IsHit cmp k es i → insert_entry cmp es k v ≡ put_value es i v
  hit_insert [] i v h = absurd (omega (arith, h.in_range))
  hit_insert (e ∷ es) zero v h = rw h.same
  hit_insert (e ∷ es) (suc i) v h = rw (h.before 0 (omega arith)) (ap (λ l. e ∷ l) (hit_insert es i v (hit_tail e es i h)))

pub keys-put_value : {K X : Type 0} (es : List (K × X)) (i : ℕ) (w : X) → keys_of (put_value es i w) ≡ keys_of es
keys-put_value [] i w = refl
keys-put_value (e ∷ es) zero w = refl
keys-put_value (e ∷ es) (suc i) w = ap (λ l. e.0 ∷ l) (keys-put_value es i w)

pub put_value-set : {K X : Type 0} (es : List (K × X)) (i : ℕ) (x : K × X) (w : X) → i < length es → x ≡ get_or es i x → slice_set es i (x.0, w) ≡ put_value es i w
put_value-set [] i x w lt is = absurd (omega arith)
put_value-set (e ∷ es) zero x w lt is = ap (λ (y : _ × _). (y.0, w) ∷ es) is
put_value-set (e ∷ es) (suc i) x w lt is = ap (λ l. e ∷ l) (put_value-set es i x w (omega arith) is)

-- the order after an edit
module _ {K : Type 0} (cmp : K → K → Ordering) where
  pub sorted_none : IsStrictlySortedBy cmp []
  unfolding IsStrictlySortedBy
  sorted_none = tt

  sorted_cons : (k : K) (ks : List K) → AllByRecursion (λ y. cmp k y ≡ Less) ks → IsStrictlySortedBy cmp ks → IsStrictlySortedBy cmp (k ∷ ks)
  unfolding IsStrictlySortedBy
  sorted_cons k ks a s = (a, s)

  pub sorted_one : (k : K) → IsStrictlySortedBy cmp (k ∷ [])
  sorted_one k = sorted_cons k [] tt sorted_none

  all_front : (P : K → Type 0) (ks ls : List K) → AllByRecursion P (ks ++ ls) → AllByRecursion P ks
  all_front P [] ls a = tt
  all_front P (k ∷ ks) ls a = (a.0, all_front P ks ls a.1)

  keys_front : (ks ls : List K) → IsStrictlySortedBy cmp (ks ++ ls) → IsStrictlySortedBy cmp ks
  keys_front [] ls s = sorted_none
  keys_front (k ∷ ks) ls s = sorted_cons k ks (all_front (λ y. cmp k y ≡ Less) ks ls (sorted_head cmp k (ks ++ ls) s)) (keys_front ks ls (sorted_tail cmp k (ks ++ ls) s))

  pub sorted_upto : (ks : List K) (k : K) (ls : List K) → IsStrictlySortedBy cmp (ks ++ k ∷ ls) → IsStrictlySortedBy cmp (ks ++ k ∷ [])
  sorted_upto ks k ls s = keys_front (ks ++ k ∷ []) ls (rw append_assoc s)

  module _ {X : Type 0} where
    all_after : (k : K) (es : List (K × X)) → IsGap cmp k es 0 → AllByRecursion (λ y. cmp k y ≡ Less) (keys_of es)
    all_after k [] h = tt
    all_after k (e ∷ es) h = (h.after 0 (omega arith) (omega arith), all_after k es (gap_first cmp k e es h))

    all_insert : (P : K → Type 0) (es : List (K × X)) (i : ℕ) (x : K × X) → AllByRecursion P (keys_of es) → P x.0 → AllByRecursion P (keys_of (insert es i x))
    all_insert P [] zero x a p = (p, tt)
    all_insert P [] (suc i) x a p = (p, tt)
    all_insert P (e ∷ es) zero x a p = (p, a)
    all_insert P (e ∷ es) (suc i) x a p = (a.0, all_insert P es i x a.1 p)

    pub sorted_insert : IsTotalOrder cmp → (k : K) (v : X) (es : List (K × X)) (i : ℕ) → IsGap cmp k es i → IsStrictlySortedBy cmp (keys_of es) → IsStrictlySortedBy cmp (keys_of (insert es i (k, v)))
    sorted_insert total k v [] zero h s = sorted_cons k [] tt sorted_none
    sorted_insert total k v [] (suc i) h s = absurd (omega (arith, h.in_range))
    sorted_insert total k v (e ∷ es) zero h s = sorted_cons k (keys_of (e ∷ es)) (all_after k (e ∷ es) h) s
    sorted_insert total k v (e ∷ es) (suc i) h s =
        sorted_cons e.0 (keys_of (insert es i (k, v)))
        (all_insert (λ y. cmp e.0 y ≡ Less) es i (k, v) (sorted_head cmp e.0 (keys_of es) s) (total.antisymm e.0 k ∙ ap ordering_reverse (h.before 0 (omega arith))))
        (sorted_insert total k v es i (gap_tail cmp k e es i h) (sorted_tail cmp e.0 (keys_of es) s))

    all_remove : (P : K → Type 0) (es : List (K × X)) (i : ℕ) → AllByRecursion P (keys_of es) → AllByRecursion P (keys_of (remove es i))
    all_remove P [] zero a = tt
    all_remove P [] (suc i) a = tt
    all_remove P (e ∷ es) zero a = a.1
    all_remove P (e ∷ es) (suc i) a = (a.0, all_remove P es i a.1)

    pub sorted_remove : (es : List (K × X)) (i : ℕ) → IsStrictlySortedBy cmp (keys_of es) → IsStrictlySortedBy cmp (keys_of (remove es i))
    sorted_remove [] zero s = s
    sorted_remove [] (suc i) s = s
    sorted_remove (e ∷ es) zero s = sorted_tail cmp e.0 (keys_of es) s
    sorted_remove (e ∷ es) (suc i) s = sorted_cons e.0 (keys_of (remove es i)) (all_remove (λ y. cmp e.0 y ≡ Less) es i (sorted_head cmp e.0 (keys_of es) s)) (sorted_remove es i (sorted_tail cmp e.0 (keys_of es) s))

    pub sorted_front : (es fs : List (K × X)) → IsStrictlySortedBy cmp (keys_of (es ++ fs)) → IsStrictlySortedBy cmp (keys_of es)
    sorted_front es fs s = keys_front (keys_of es) (keys_of fs) (rw (map-append (λ (e : K × X). e.0) es fs) at s)

-- each key is below the next
pub sorted_adjacent : {K X : Type 0} {cmp : K → K → Ordering} → IsTotalOrder cmp → (es : List (K × X)) → AllAdjacentBelow (λ x y. true ≡ is_lt (cmp x.0 y.0)) es (length es) → IsStrictlySortedBy cmp (keys_of es)
sorted_adjacent {K} {X} {cmp} total [] adjacent = sorted_none cmp
sorted_adjacent {K} {X} {cmp} total (e ∷ es) adjacent =
    sorted_from_all_adjacent total (keys_of (e ∷ es)) e.0 (λ k lt.
    let near : k + 1 < length (e ∷ es) = omega (arith, lt, length-keys_of (e ∷ es)) in
    rw (get_or-map (λ (p : K × X). p.0) (e ∷ es) k e, get_or-map (λ (p : K × X). p.0) (e ∷ es) (k + 1) e) (less_from _ (adjacent k e near)))
  where
    less_from : (o : Ordering) → true ≡ is_lt o → o ≡ Less
    less_from Less is = refl
    less_from o is = cc

-- a binary search
digits_grow : (fuel m n : ℕ) → n ≤ fuel → m ≤ n → binary_digits m ≤ binary_digits n
digits_grow zero m n small le = let z : n ≡ m = omega arith in rw z (omega arith)
digits_grow (suc fuel) zero n small le = omega arith
digits_grow (suc fuel) (suc m) n small le =
    omega (arith, length-digits_of_step 2 (suc m) (omega arith) (omega arith), length-digits_of_step 2 n (omega arith) (omega arith), digits_grow fuel (suc m / 2) (n / 2) (omega arith) (omega arith))

-- half as many have a digit less
pub halved : (s t : ℕ) → 0 < s → t ≤ s / 2 → binary_digits t + 1 ≤ binary_digits s
halved s t some half = omega (arith, length-digits_of_step 2 s (omega arith) some, digits_grow (s / 2) t (s / 2) (omega arith) half)

pub keys-append : {K X : Type 0} (es fs : List (K × X)) → keys_of (es ++ fs) ≡ keys_of es ++ keys_of fs
keys-append es fs = map-append (λ e. e.0) es fs
