-- What is in a tree is smaller.
use Rattle.qs_data.proofs.Common.{◌≡◌, ℕ, ◌+◌, ◌≤◌, Bool, true, false, cond, ◌∷◌, Some, None, refl, ap, arith, Items, Entries, no_items, item, no_entries, entry, sequence_items, placed, is_place, tree_size, items_size, list_size, entries_size}

pub each_size : (xs : Items) → list_size (sequence_items xs) ≡ items_size xs
each_size no_items = refl
each_size (item t xs) = ap (λ n. tree_size t + n) (each_size xs)

pub placed_size : (i : ℕ) (es : Entries) → list_size (placed i es) ≤ entries_size es
placed_size i no_entries = omega arith
placed_size i (entry k m t es) = by_place (is_place i k) (placed_size (i + 1) es) where
  by_place : (b : Bool) → list_size (placed (i + 1) es) ≤ entries_size es → list_size (cond b (Some t) None ∷ placed (i + 1) es) ≤ tree_size t + entries_size es
  by_place true h = omega arith
  by_place false h = omega arith
