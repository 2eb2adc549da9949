-- The items of a node, place by place.
use Rattle.qs_data.proofs.Common.{◌++◌, inl, inr, append-nil, ◌≡◌, ℕ, zero, suc, ◌+◌, ◌≤◌, ◌&&◌, Bool, true, false, cond, List, [], ◌∷◌, map, drop, length, slice_get, Option, Some, None, refl, sym, ap, ◌∙◌, arith, drop_all, cases_Bool, false≢true, ParsedSegment, Tree, Items, Entries, no_items, item, no_entries, entry, sequence_items, placed, is_place, is_int, are_ints, Global, tree_of, items_from, entry_list, segment_of_key, ParsedValue, option_map, option_and_then, items, Reader, read_each, with_front, leaf, sequence, mapping, uninitialized, is_utf8, segment_text, entries_after, first_item, are_text, passed, is_text, items_are_text, entries_are_text, and-true, same_Some}
use Rattle.std.specs.declared.borrow.CowSlice.{CowSlice}
use Rattle.std.specs.declared.borrow.CowSlice.TheVariants.{Borrowed, Owned}
use Rattle.qs_tree.specs.declared.tree.key.Key.{Key}
use Rattle.qs_tree.specs.declared.tree.key.Key.TheVariants as key
use Rattle.std.specs.Borrow.{Bor}
use Rattle.std.specs.Slice.{IsItemAt}
use Rattle.qs_spec.specs.Data.{Data}
use Rattle.qs_spec.specs.Leaf.Leaf.{NoValue, Null, Text}
use Rattle.qs_data.proofs.lemmas.read.Errors.{and_left, and_right}
use Rattle.qs_data.proofs.lemmas.read.Fields.{item_at, no_item_at}
use Rattle.qs_data.proofs.lemmas.read.Steps.{before, before-front}
use Rattle.qs_data.proofs.lemmas.read.Entries.{after_some, after_none}

-- the places of a map from one on
places_from : (i j : ℕ) (es : Entries) → drop i (placed j es) ≡ placed (j + i) (entries_after i es)
places_from zero j es = let e : j ≡ j + 0 = omega arith in ap (λ n. placed n es) e
places_from (suc i) j no_entries = refl
places_from (suc i) j (entry k m t es) =
    let e : (j + 1) + i ≡ j + suc i = omega arith in
    places_from i (j + 1) es ∙ ap (λ n. placed n (entries_after i es)) e

places_at : (i : ℕ) (es : Entries) → drop i (placed 0 es) ≡ placed i (entries_after i es)
places_at i es = let e : 0 + i ≡ i = omega arith in places_from i 0 es ∙ ap (λ n. placed n (entries_after i es)) e

-- what stands at a place of a map, if anything does
pub place_here : (i : ℕ) (es : Entries) (x : ParsedSegment × Tree) → slice_get (entry_list es) i ≡ Some x → drop i (placed 0 es) ≡ cond (is_place i x.0.segment) (Some x.1) None ∷ placed (i + 1) (entries_after (i + 1) es)
place_here i es x h = places_at i es ∙ ap (placed i) (after_some i es x h)

pub place_none : (i : ℕ) (es : Entries) → slice_get (entry_list es) i ≡ None → drop i (placed 0 es) ≡ []
place_none i es h = places_at i es ∙ ap (placed i) (after_none i es h)

not_passed : (b : Bool) → passed b ≡ None → b ≡ false
not_passed true h = absurd cc
not_passed false h = refl

is_passed : (b : Bool) → passed b ≡ Some true → b ≡ true
is_passed true h = refl
is_passed false h = absurd cc

pub first_none : (i : ℕ) (es : Entries) → slice_get (entry_list es) i ≡ None → first_item (drop i (placed 0 es)) ≡ Some None
first_none i es h = ap first_item (place_none i es h)

pub first_rejected : (i : ℕ) (es : Entries) (x : ParsedSegment × Tree) → slice_get (entry_list es) i ≡ Some x → passed (is_place i x.0.segment) ≡ None → first_item (drop i (placed 0 es)) ≡ None
first_rejected i es x h n =
    let rest = placed (i + 1) (entries_after (i + 1) es) in
    ap first_item (place_here i es x h ∙ ap (λ b. cond b (Some x.1) None ∷ rest) (not_passed (is_place i x.0.segment) n))

pub first_given : (i : ℕ) (es : Entries) (x : ParsedSegment × Tree) → slice_get (entry_list es) i ≡ Some x → passed (is_place i x.0.segment) ≡ Some true → first_item (drop i (placed 0 es)) ≡ Some (Some x.1)
first_given i es x h y =
    let rest = placed (i + 1) (entries_after (i + 1) es) in
    ap first_item (place_here i es x h ∙ ap (λ b. cond b (Some x.1) None ∷ rest) (is_passed (is_place i x.0.segment) y))

-- one of several is as long as the list
pub each_length : (ts : List ParsedValue) → length (sequence_items (items_from (map tree_of ts))) ≡ length ts
each_length [] = refl
each_length (t ∷ ts) = ap suc (each_length ts)

pub places_length : (j : ℕ) (es : Entries) → length (placed j es) ≡ length (entry_list es)
places_length j no_entries = refl
places_length j (entry k m t es) = ap suc (places_length (j + 1) es)

-- the items of a sequence
pub each_at : (i : ℕ) (ts : List ParsedValue) → drop i (sequence_items (items_from (map tree_of ts))) ≡ sequence_items (items_from (map tree_of (drop i ts)))
each_at zero ts = refl
each_at (suc i) [] = refl
each_at (suc i) (t ∷ ts) = each_at i ts

-- a key that is a number, and one that is none
pub int_key : (i : ℕ) (es : Entries) (x : ParsedSegment × Tree) → slice_get (entry_list es) i ≡ Some x → is_int x.0.segment ≡ true → are_ints (entries_after i es) ≡ are_ints (entries_after (i + 1) es)
int_key i es x h n = ap are_ints (after_some i es x h) ∙ ap (λ b. b && are_ints (entries_after (i + 1) es)) n

pub not_int : (i : ℕ) (es : Entries) (x : ParsedSegment × Tree) → slice_get (entry_list es) i ≡ Some x → is_int x.0.segment ≡ false → are_ints (entries_after i es) ≡ false
not_int i es x h n = ap are_ints (after_some i es x h) ∙ ap (λ b. b && are_ints (entries_after (i + 1) es)) n

pub string_key : (k : Key) (t : CowSlice ℕ Global) → k ≡ key.String t → is_int (segment_of_key k) ≡ false
string_key k (Borrowed r) h = ap (λ x. is_int (segment_of_key x)) h
string_key k (Owned v) h = ap (λ x. is_int (segment_of_key x)) h

pub item_first : (ts : List ParsedValue) (i : ℕ) (r : Option (Bor ParsedValue)) → IsItemAt ts i r → first_item (drop i (sequence_items (items_from (map tree_of ts)))) ≡ Some (option_map (λ v. tree_of v.now) r)
item_first ts i None h = ap first_item (each_at i ts ∙ ap sequence_items (no_item_at ts i h.3))
item_first ts i (Some v) h = ap first_item (each_at i ts ∙ ap sequence_items (item_at ts i v.now h.3.0 h.1))

-- an item that isn't all text stands among items that aren't
pub due_bad : (i : ℕ) (xs : List (Option Tree)) (t : Tree) → first_item (drop i xs) ≡ Some (Some t) → is_text t ≡ false → are_text xs ≡ false
due_bad zero (Some u ∷ xs) t h n = let e : u ≡ t = cc in and_left (is_text u) (are_text xs) (ap is_text e ∙ n)
due_bad (suc i) (None ∷ xs) t h n = due_bad i xs t h n
due_bad (suc i) (Some u ∷ xs) t h n = and_right (is_text u) (are_text xs) (due_bad i xs t h n)
due_bad i xs t h n = absurd cc

-- items that aren't all text stand in a node that isn't
each_bad : (xs : Items) → are_text (sequence_items xs) ≡ false → items_are_text xs ≡ false
each_bad no_items n = n
each_bad (item t xs) n = elim (cases_Bool (is_text t)) [
  | inl good ↦
      let rest : are_text (sequence_items xs) ≡ false = sym (rw good) ∙ n in
      and_right (is_text t) (items_are_text xs) (each_bad xs rest)
  | inr bad ↦ and_left (is_text t) (items_are_text xs) bad
]

placed_bad : (i : ℕ) (es : Entries) → are_text (placed i es) ≡ false → entries_are_text es ≡ false
placed_bad i no_entries n = n
placed_bad i (entry k m t es) n = elim (cases_Bool (is_place i k)) [
  | inl here ↦ elim (cases_Bool (is_text t)) [
    | inl good ↦
        let rest : are_text (placed (i + 1) es) ≡ false = sym (rw (here, good)) ∙ n in
        and_right (is_utf8 (segment_text k) && is_text t) (entries_are_text es) (placed_bad (i + 1) es rest)
    | inr bad ↦ and_left (is_utf8 (segment_text k) && is_text t) (entries_are_text es) (and_right (is_utf8 (segment_text k)) (is_text t) bad)
  ]
  | inr not ↦
      let rest : are_text (placed (i + 1) es) ≡ false = sym (rw not) ∙ n in
      and_right (is_utf8 (segment_text k) && is_text t) (entries_are_text es) (placed_bad (i + 1) es rest)
]

pub items_bad : (t : Tree) (xs : List (Option Tree)) → items t ≡ Some xs → are_text xs ≡ false → is_text t ≡ false
items_bad (leaf NoValue) xs h n = let e : [] ≡ xs = same_Some [] xs h in absurd (false≢true (sym n ∙ ap are_text (sym e)))
items_bad (leaf Null) xs h n = let e : [] ≡ xs = same_Some [] xs h in absurd (false≢true (sym n ∙ ap are_text (sym e)))
items_bad (leaf (Text b m)) xs h n =
    let one : Some (leaf (Text b m)) ∷ [] ≡ xs = same_Some _ xs h in
    sym (and-true (is_utf8 b)) ∙ ap are_text one ∙ n
items_bad (sequence ys) xs h n = let e : sequence_items ys ≡ xs = same_Some _ xs h in each_bad ys (ap are_text e ∙ n)
items_bad (mapping es) xs h n = elim (cases_Bool (are_ints es)) [
  | inl ints ↦ let e : placed 0 es ≡ xs = same_Some _ xs (sym (rw ints) ∙ h) in placed_bad 0 es (ap are_text e ∙ n)
  | inr not ↦ absurd (let e : None ≡ Some xs = sym (rw not) ∙ h in cc)
]
items_bad uninitialized xs h n = absurd cc

-- one more item of a list
pub first_some : (xs : List (Option Tree)) (i : ℕ) (t : Tree) → first_item (drop i xs) ≡ Some (Some t) → drop i xs ≡ Some t ∷ drop (i + 1) xs
first_some (Some u ∷ xs) zero t h = let e : u ≡ t = cc in ap (λ y. Some y ∷ xs) e
first_some (x ∷ xs) (suc i) t h = let e : suc i + 1 ≡ suc (i + 1) = omega arith in first_some xs i t h ∙ ap (λ m. Some t ∷ drop m (x ∷ xs)) (sym e)
first_some (None ∷ xs) zero t h = absurd cc
first_some [] zero t h = absurd cc
first_some [] (suc i) t h = absurd cc

pub first_end : (xs : List (Option Tree)) → first_item xs ≡ Some None → xs ≡ []
first_end [] h = refl
first_end (None ∷ xs) h = absurd cc
first_end (Some t ∷ xs) h = absurd cc

none_due : (r : Reader) (xs : List (Option Tree)) → first_item xs ≡ None → read_each r xs ≡ None
none_due r [] h = absurd cc
none_due r (None ∷ xs) h = refl
none_due r (Some t ∷ xs) h = absurd cc

module _ (r : Reader) (xs : List (Option Tree)) (i : ℕ) (ws : List Data) where
  pub each_missing : first_item (drop i xs) ≡ None → before ws (read_each r (drop i xs)) ≡ None
  each_missing h = ap (before ws) (none_due r (drop i xs) h)

  pub each_more : (t : Tree) (d : Data) → first_item (drop i xs) ≡ Some (Some t) → r t ≡ Some d → before ws (read_each r (drop i xs)) ≡ before (ws ++ d ∷ []) (read_each r (drop (i + 1) xs))
  each_more t d h g =
      ap (λ ys. before ws (read_each r ys)) (first_some xs i t h)
      ∙ ap (λ o. before ws (option_and_then (λ x. with_front x (read_each r (drop (i + 1) xs))) o)) g
      ∙ before-front ws d (read_each r (drop (i + 1) xs))

  pub each_unread : (t : Tree) → first_item (drop i xs) ≡ Some (Some t) → r t ≡ None → before ws (read_each r (drop i xs)) ≡ None
  each_unread t h g =
      ap (λ ys. before ws (read_each r ys)) (first_some xs i t h)
      ∙ ap (λ o. before ws (option_and_then (λ x. with_front x (read_each r (drop (i + 1) xs))) o)) g

  pub each_end : first_item (drop i xs) ≡ Some None → before ws (read_each r (drop i xs)) ≡ Some ws
  each_end h = ap (λ ys. before ws (read_each r ys)) (first_end (drop i xs) h) ∙ ap Some (append-nil ws)

  pub each_all : length xs ≤ i → before ws (read_each r (drop i xs)) ≡ Some ws
  each_all h = ap (λ ys. before ws (read_each r ys)) (drop_all i xs h) ∙ ap Some (append-nil ws)
