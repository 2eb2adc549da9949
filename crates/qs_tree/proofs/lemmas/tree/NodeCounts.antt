-- How many nodes a value has, when a child is changed or taken out.
use Rattle.qs_tree.proofs.Common.{◌≡◌, ℕ, zero, suc, ◌+◌, ◌<◌, ◌≤◌, List, [], ◌∷◌, ◌++◌, length, get_or, slice_get, slice_set, Some, option_map, Vec, Global, refl, ap, ◌∙◌, arith, none-some, same_Some, Tree, Key, ParsedValue, Map, Sequence, ParsedMap, node_count, items_node_count, entries_node_count, put_value, tree_of, items_of}
use Rattle.qs_tree.proofs.lemmas.tree.Keys.{Held, seen_view, entries_view, entries_of_map-map}
use Rattle.qs_tree.proofs.lemmas.Views.{tree_of-Map, tree_of-Sequence}

abbrev pub nodes : ParsedValue → ℕ
nodes v = node_count (tree_of v)

abbrev pub entry_nodes : Held → ℕ
entry_nodes es = entries_node_count (entries_view es)

abbrev pub item_nodes : List ParsedValue → ℕ
item_nodes vs = items_node_count (items_of vs)

pub map_nodes : (m : ParsedMap) → nodes (Map m) ≡ 2 + entry_nodes m.map
map_nodes m = ap node_count (tree_of-Map m) ∙ ap (λ es. 2 + entries_node_count es) (entries_of_map-map m)

pub sequence_nodes : (v : Vec ParsedValue Global) → nodes (Sequence v) ≡ 2 + item_nodes v.items
sequence_nodes v = ap node_count (tree_of-Sequence v)

pub no_entry_nodes : (es : Held) → length es ≡ 0 → entry_nodes es ≡ 0
no_entry_nodes [] none = refl
no_entry_nodes (e ∷ es) none = absurd (omega arith)

pub no_item_nodes : (vs : List ParsedValue) → length vs ≡ 0 → item_nodes vs ≡ 0
no_item_nodes [] none = refl
no_item_nodes (v ∷ vs) none = absurd (omega arith)

-- entries whose values are seen as trees
module _ {X : Type 0} (seen : X → Tree) where
  abbrev count : X → ℕ
  count v = node_count (seen v)

  abbrev counts : List (Key × X) → ℕ
  counts es = entries_node_count (seen_view seen es)

  -- the value of an entry, and another one in its place
  pub entry_put : (es : List (Key × X)) (i : ℕ) (old new : X) → option_map (λ e. e.1) (slice_get es i) ≡ Some old → counts (put_value es i new) + count old ≡ counts es + count new
  entry_put [] i old new h = absurd (none-some _ h)
  entry_put (e ∷ es) zero old new h = omega (arith, ap count (same_Some _ _ h))
  entry_put (e ∷ es) (suc i) old new h = omega (arith, entry_put es i old new h)

  pub entry_within : (es : List (Key × X)) (i : ℕ) (old : X) → option_map (λ e. e.1) (slice_get es i) ≡ Some old → count old ≤ counts es
  entry_within [] i old h = absurd (none-some _ h)
  entry_within (e ∷ es) zero old h = omega (arith, ap count (same_Some _ _ h))
  entry_within (e ∷ es) (suc i) old h = omega (arith, entry_within es i old h)

  pub entry_last : (es : List (Key × X)) (k : Key) (v : X) → counts (es ++ (k, v) ∷ []) ≡ counts es + count v
  entry_last [] k v = omega arith
  entry_last (e ∷ es) k v = omega (arith, entry_last es k v)

-- an entry that was read
pub entry_at_within : (es : Held) (i : ℕ) (e : Key × ParsedValue) → i < length es → e ≡ get_or es i e → nodes e.1 ≤ entry_nodes es
entry_at_within [] i e lt is = absurd (omega arith)
entry_at_within (f ∷ es) zero e lt is = omega (arith, ap (λ (p : Key × ParsedValue). nodes p.1) is)
entry_at_within (f ∷ es) (suc i) e lt is = omega (arith, entry_at_within es i e (omega arith) is)

-- the same of items
pub item_put : (vs : List ParsedValue) (i : ℕ) (d new : ParsedValue) → i < length vs → item_nodes (slice_set vs i new) + nodes (get_or vs i d) ≡ item_nodes vs + nodes new
item_put [] i d new lt = absurd (omega arith)
item_put (v ∷ vs) zero d new lt = omega arith
item_put (v ∷ vs) (suc i) d new lt = omega (arith, item_put vs i d new (omega arith))

pub item_within : (vs : List ParsedValue) (i : ℕ) (d : ParsedValue) → i < length vs → nodes (get_or vs i d) ≤ item_nodes vs
item_within [] i d lt = absurd (omega arith)
item_within (v ∷ vs) zero d lt = omega arith
item_within (v ∷ vs) (suc i) d lt = omega (arith, item_within vs i d (omega arith))

pub item_at_within : (vs : List ParsedValue) (i : ℕ) (v : ParsedValue) → i < length vs → v ≡ get_or vs i v → nodes v ≤ item_nodes vs
item_at_within vs i v lt is = omega (arith, ap nodes is, item_within vs i v lt)

pub item_last : (vs : List ParsedValue) (v : ParsedValue) → item_nodes (vs ++ v ∷ []) ≡ item_nodes vs + nodes v
item_last [] v = omega arith
item_last (x ∷ vs) v = omega (arith, item_last vs v)
