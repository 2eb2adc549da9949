-- Keys that are distinct.
use Rattle.qs_tree.proofs.Common.{inl, inr, cases_Bool, ◌≡◌, ◌≤◌, ℕ, Bool, true, false, cond, List, ◌∷◌, length, get_or, map, filter, refl, sym, ap, ◌∙◌, arith, true≢false, IsPermutation, Key, ParsedValue, segment_of_key, get_or-map, length-map, HaveDistinctKeys, hash_of, IsPermutation-sym, IsDistinct-IsPermutation, IsDistinct-from_sorted, apart_from_distinct, sorted_from_strictly_increasing, Perm}
use Rattle.std.proofs.lemmas.Cmp.{eq_by_cmp_equiv, nat_cmp_total}
use Rattle.std.specs.List.Sorted.{IsStrictlyIncreasing}
use Rattle.std.specs.Ordering.{eq_by_cmp, nat_cmp}
use Rattle.qs_spec.proofs.Permuted.Perm.{same, keep, turn, after}
use Rattle.qs_tree.proofs.lemmas.tree.Keys.{Held}

-- an element that is alone has an order to keep in any permutation
pub alone : {X : Type 0} (p : X → Bool) {xs ys : List X} → Perm xs ys → length (filter p xs) ≤ 1 → filter p ys ≡ filter p xs
alone p same few = refl
alone p (keep {x} {xs} {ys} moved) few =
    elim (cases_Bool (p x)) [
      | inl one ↦ let less = rw one at few in rw one (ap (λ l. x ∷ l) (alone p moved (omega (arith, less))))
      | inr other ↦ let less = rw other at few in rw other (alone p moved less)
    ]
alone p (turn {x} {y} {xs}) few = by (p x) (p y) few
  where
    by : (a b : Bool) → length (cond a (x ∷ cond b (y ∷ filter p xs) (filter p xs)) (cond b (y ∷ filter p xs) (filter p xs))) ≤ 1
        → cond b (y ∷ cond a (x ∷ filter p xs) (filter p xs)) (cond a (x ∷ filter p xs) (filter p xs)) ≡ cond a (x ∷ cond b (y ∷ filter p xs) (filter p xs)) (cond b (y ∷ filter p xs) (filter p xs))
    by true true two = absurd (omega (arith, two))
    by true false one = refl
    by false b one = refl
alone p (after moved again) few = let kept = alone p moved few in alone p again (rw kept few) ∙ kept

-- keys are distinct where their hashes are
abbrev hash_held : Key × ParsedValue → ℕ
hash_held p = hash_of (segment_of_key p.0)

pub distinct_hashes : (es : Held) (sorted : List ℕ) → IsPermutation (map hash_held es) sorted → IsStrictlyIncreasing sorted → HaveDistinctKeys es
distinct_hashes es sorted moved rises i j d lt within equal =
    let tests = eq_by_cmp_equiv nat_cmp_total in
    let distinct = IsDistinct-IsPermutation (eq_by_cmp nat_cmp) tests.symm sorted (map hash_held es) (IsPermutation-sym _ _ moved) (IsDistinct-from_sorted nat_cmp sorted (sorted_from_strictly_increasing sorted rises)) in
    let apart = apart_from_distinct (eq_by_cmp nat_cmp) (map hash_held es) i j (hash_held d) distinct lt (omega (arith, length-map es hash_held, within)) in
    let one : get_or (map hash_held es) i (hash_held d) ≡ get_or (map hash_held es) j (hash_held d) =
    get_or-map hash_held es i d (hash_held d) (omega (arith, lt, within)) ∙ ap hash_of equal ∙ sym (get_or-map hash_held es j d (hash_held d) within) in
    true≢false (sym (tests.refl (get_or (map hash_held es) i (hash_held d))) ∙ ap (eq_by_cmp nat_cmp (get_or (map hash_held es) i (hash_held d))) one ∙ apart)
