-- A node with one pair alone, and what a finished map holds after a step.
use Rattle.qs_tree.proofs.Common.{map-append, ◌≡◌, ℕ, zero, suc, ◌≤◌, ◌<◌, Bool, true, false, List, [], ◌∷◌, ◌++◌, length, drop, slice_get, Some, None, option_map, unwrap_or, Result, Ok, Err, refl, sym, ap, ◌∙◌, arith, drop-append-le, same_Some, IsStrictlySortedBy, keys_of, insert_entry, set_value, lookup, is_at, ParsedSegment, Leaf, Tree, mapping, uninitialized, entry, no_entries, add_to_leaves, add, Key, ParsedMap, ParsedValue, Uninitialized, AddError, key_cmp, segment_of_key, is_owned_key, parsed_segment_of_key, tree_of, entries_of_map, path_of, IsHit, IsGap, put_value, entries_held, Adds, entries_below}
use Rattle.qs_tree.specs.declared.scan.pair.Pair.{Pair}
use Rattle.qs_tree.proofs.lemmas.tree.Keys.{seen_view, entries_of_map-map}
use Rattle.qs_tree.proofs.lemmas.tree.Places.{hit_lookup, hit_set}
use Rattle.qs_tree.proofs.lemmas.build.Turns.{rejected_too}
use Rattle.qs_tree.proofs.lemmas.build.Descending.{nothing_below}
use Rattle.qs_tree.proofs.lemmas.build.Built.{at_key, found_set}

-- maps of one entry each, down to a node
abbrev pub chain : List ParsedSegment → Tree → Tree
chain [] t = t
chain (s ∷ path) t = mapping (entry s.segment s.escaped (chain path t) no_entries)

chain-last : (path : List ParsedSegment) (s : ParsedSegment) (t : Tree) → chain (path ++ s ∷ []) t ≡ chain path (mapping (entry s.segment s.escaped t no_entries))
chain-last [] s t = refl
chain-last (r ∷ path) s t = ap (λ u. mapping (entry r.segment r.escaped u no_entries)) (chain-last path s t)

pub shorter : (level : ℕ) (old new : List Key) (k : Key) (t : Tree) → old ≡ new ++ k ∷ [] → level ≤ length new
    → chain (path_of (drop level old)) t ≡ chain (path_of (drop level new)) (mapping (entry (segment_of_key k) (is_owned_key k) t no_entries))
shorter level old new k t is le =
    ap (λ l. chain (path_of l) t) (ap (drop level) is ∙ drop-append-le level new (k ∷ []) le)
    ∙ ap (λ l. chain l t) (map-append parsed_segment_of_key (drop level new) (k ∷ []))
    ∙ chain-last (path_of (drop level new)) (parsed_segment_of_key k) t

pub alone : (path : List ParsedSegment) (push : Bool) (l : Leaf) (t : Tree) → add_to_leaves push l uninitialized ≡ Some t → add path push l uninitialized ≡ Some (chain path t)
alone [] false l t h = h
alone [] true l t h = h
alone (s ∷ path) push l t h = rw (alone path push l t h)

pub same_head : (k j : Key) (ks js : List Key) → k ∷ ks ≡ j ∷ js → k ≡ j
same_head k j ks js e = cc

-- no pair goes below a node without entries
pub barred : (ks : List Key) (level : ℕ) → level < length ks → (push : Bool) (l : Leaf) (t : Tree) → entries_below t ≡ None → add (path_of (drop level ks)) push l t ≡ None
barred [] level lt push l t none = absurd (omega arith)
barred (k ∷ ks) zero lt push l t none = nothing_below (parsed_segment_of_key k) (add (path_of ks) push l) t none
barred (k ∷ ks) (suc level) lt push l t none = barred ks level (omega arith) push l t none

-- what is added to a map's entries is added to the map
pub in_map : (old new : ParsedMap) (path : List ParsedSegment) (push : Bool) (l : Leaf) (before after : Pair) (r : Result Bool AddError)
    → Adds (add path push l (mapping (entries_held old.map))) (mapping (entries_held old.map)) (mapping (entries_held new.map)) before after r
    → Adds (add path push l (mapping (entries_of_map old))) (mapping (entries_of_map old)) (mapping (entries_of_map new)) before after r
in_map old new path push l before after r h = rw (entries_of_map-map old, entries_of_map-map new) h

module _ {X : Type 0} (seen : X → Tree) (empty : X) (none : seen empty ≡ uninitialized) (k : Key) (es : List (Key × X)) (sorted : IsStrictlySortedBy key_cmp (keys_of es)) (path : List ParsedSegment) (push : Bool) (l : Leaf) where
  set_same : (fs : List (Key × X)) (old new : X) → lookup (is_at (key_cmp k)) fs ≡ Some old → seen new ≡ seen old → seen_view seen (set_value (is_at (key_cmp k)) fs new) ≡ seen_view seen fs
  set_same [] old new is same = refl
  set_same (e ∷ fs) old new is same = by (is_at (key_cmp k) e.0) refl (set_same fs old new)
    where
      by : (b : Bool) → is_at (key_cmp k) e.0 ≡ b → (lookup (is_at (key_cmp k)) fs ≡ Some old → seen new ≡ seen old → seen_view seen (set_value (is_at (key_cmp k)) fs new) ≡ seen_view seen fs)
          → seen_view seen (set_value (is_at (key_cmp k)) (e ∷ fs) new) ≡ seen_view seen (e ∷ fs)
      by true d more =
          let here : Some e.1 ≡ Some old = (rw d at is) in
          rw d (ap (λ t. entry (segment_of_key e.0) (is_owned_key e.0) t (seen_view seen fs)) (same ∙ ap seen (sym (same_Some _ _ here))))
      by false d more =
          let there : lookup (is_at (key_cmp k)) fs ≡ Some old = (rw d at is) in
          rw d (ap (entry (segment_of_key e.0) (is_owned_key e.0) (seen e.1)) (more there same))

  -- a pair is added at the node at a key
  pub added_at : (old new : X) → lookup (is_at (key_cmp k)) es ≡ Some old → (before after : Pair) (r : Result Bool AddError)
      → Adds (add path push l (seen old)) (seen old) (seen new) before after r
      → Adds (add (parsed_segment_of_key k ∷ path) push l (mapping (seen_view seen es))) (mapping (seen_view seen es)) (mapping (seen_view seen (set_value (is_at (key_cmp k)) es new))) before after r
  added_at old new is before after (Ok true) h =
      ap (option_map mapping) (at_key seen empty none k es sorted old (sym (ap (λ o. unwrap_or o empty) is)) _ _ refl (add path push l) new (ap (seen_view seen) (found_set seen k es old new is sorted)) (Ok (tt {0})) h)
  added_at old new is before after (Ok false) h = record { node = ap mapping (set_same es old new is h.node); pair = h.pair }
  added_at old new is before after (Err e) h =
      rejected_too _ _ e (λ none. ap (option_map mapping) none)
      (at_key seen empty none k es sorted old (sym (ap (λ o. unwrap_or o empty) is)) {A = Unit {0}} _ _ refl (add path push l) new (ap (seen_view seen) (found_set seen k es old new is sorted)) (Err e) h)

  -- the same in a vector
  pub added_below : (i : ℕ) → IsHit key_cmp k es i → (old new : X) → option_map (λ e. e.1) (slice_get es i) ≡ Some old → (before after : Pair) (r : Result Bool AddError)
      → Adds (add path push l (seen old)) (seen old) (seen new) before after r
      → Adds (add (parsed_segment_of_key k ∷ path) push l (mapping (seen_view seen es))) (mapping (seen_view seen es)) (mapping (seen_view seen (put_value es i new))) before after r
  added_below i hit old new is before after r h = rw (hit_set key_cmp k es i new hit) at (added_at old new (hit_lookup key_cmp k es i hit ∙ is) before after r h)

  -- a pair is added at a missing key
  pub added_new : lookup (is_at (key_cmp k)) es ≡ None → (value : X) → add path push l uninitialized ≡ Some (seen value)
      → add (parsed_segment_of_key k ∷ path) push l (mapping (seen_view seen es)) ≡ Some (mapping (seen_view seen (insert_entry key_cmp es k value)))
  added_new gap value h =
      ap (option_map mapping) (at_key seen empty none k es sorted empty (sym (ap (λ o. unwrap_or o empty) gap))
      _ _ refl (add path push l) value refl (Ok (tt {0})) (rw none h))
