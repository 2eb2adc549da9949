-- The order of keys, and what a map finds, seen as segments and trees.
use Rattle.qs_tree.proofs.Common.{◌≡◌, ℕ, zero, suc, slice_get, length, List, [], ◌∷◌, Option, Some, None, option_map, Bor, refl, ap, ◌∙◌, sym, inl, inr, rules, map, cases_Bool, lookup, remove_entry, is_at, ParsedSegment, compare_segments, is_same_segment, Tree, Entries, Key, ParsedValue, the_lemmas, ParsedMap, key_cmp, segment_of_key, parsed_segment_of_key, tree_of, entries_from, entries_of_map, map_pairs, entry_list, value_at_key, take_out}

abbrev pub Held : Type 0
Held = List (Key × ParsedValue)

-- entries of keys and nodes that are seen as trees
abbrev pub seen_view : {X : Type 0} → (X → Tree) → List (Key × X) → Entries
seen_view seen es = entries_from (map (λ p. (p.0, seen p.1)) es)

abbrev pub entries_view : Held → Entries
entries_view es = seen_view tree_of es

pub key_cmp-segments : (a b : Key) → key_cmp a b ≡ compare_segments (segment_of_key a) (segment_of_key b)
key_cmp-segments a b = refl

pub entries_of_map-map : (m : ParsedMap) → entries_of_map m ≡ entries_view m.map
entries_of_map-map m = search (rules, the_lemmas)

pub seen-lookup : {X : Type 0} (seen : X → Tree) (k : Key) (es : List (Key × X)) → option_map seen (lookup (is_at (key_cmp k)) es) ≡ value_at_key (segment_of_key k) (seen_view seen es)
seen-lookup seen k [] = refl
seen-lookup seen k (e ∷ es) =
    rw (key_cmp-segments k e.0) (elim (cases_Bool (is_same_segment (segment_of_key k) (segment_of_key e.0))) [
      | inl same ↦ rw same
      | inr other ↦ rw (other, seen-lookup seen k es)
    ])

pub view-remove_entry : (k : Key) (es : Held) → entries_view (remove_entry (is_at (key_cmp k)) es) ≡ take_out (segment_of_key k) (entries_view es)
view-remove_entry k [] = refl
view-remove_entry k (e ∷ es) =
    rw (key_cmp-segments k e.0) (elim (cases_Bool (is_same_segment (segment_of_key k) (segment_of_key e.0))) [
      | inl same ↦ rw same
      | inr other ↦ rw (other, view-remove_entry k es)
    ])

pub mapped_twice : {A B C : Type 0} (f : A → B) (g : B → C) (o : Option A) → option_map (λ a. g (f a)) o ≡ option_map g (option_map f o)
mapped_twice f g None = refl
mapped_twice f g (Some a) = refl

abbrev pub pairs_view : Held → List (ParsedSegment × Tree)
pairs_view es = entry_list (entries_view es)

pub map_pairs-map : (m : ParsedMap) → map_pairs m ≡ pairs_view m.map
map_pairs-map m = ap entry_list (entries_of_map-map m)

pub length-pairs_view : (es : Held) → length (pairs_view es) ≡ length es
length-pairs_view [] = refl
length-pairs_view (e ∷ es) = ap suc (length-pairs_view es)

pub ruleset lengths = (map_pairs-map, length-pairs_view)

abbrev Shown : Type 0
Shown = Bor Key × Bor ParsedValue

abbrev pair_seen : Key × ParsedValue → ParsedSegment × Tree
pair_seen p = (parsed_segment_of_key p.0, tree_of p.1)

abbrev deref : Shown → Key × ParsedValue
deref p = (p.0.now, p.1.now)

pub slice_get-pairs_view : (xs : Held) (k : ℕ) → slice_get (pairs_view xs) k ≡ option_map pair_seen (slice_get xs k)
slice_get-pairs_view [] k = refl
slice_get-pairs_view (e ∷ xs) zero = refl
slice_get-pairs_view (e ∷ xs) (suc k) = slice_get-pairs_view xs k

pub pair_at : (r : Option Shown) (es : Held) (i : ℕ) → option_map deref r ≡ slice_get es i → option_map (λ p. pair_seen (deref p)) r ≡ slice_get (pairs_view es) i
pair_at r es i h = mapped_twice deref pair_seen r ∙ ap (option_map pair_seen) h ∙ sym (slice_get-pairs_view es i)
