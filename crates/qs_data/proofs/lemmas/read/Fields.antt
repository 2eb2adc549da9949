-- The fields of a struct, one after the other.
use Rattle.qs_data.proofs.Common.{◌≡◌, ℕ, zero, suc, ◌+◌, ◌<◌, ◌≤◌, add-one, arith, rules, string_bytes, Bool, false, ◌&&◌, List, [], ◌∷◌, map, Option, Some, None, drop, length, get_or, refl, sym, ap, ◌∙◌, inl, inr, option_map, option_and_then, bytes_eq, is_utf8, cases_Bool, drop_more, Named, segment_text, is_option, Tree, Items, Entries, no_items, item, no_entries, entry, found, Reader, reads_names, reads_places, read_field, read_place, with_field, items_after, tree_of, items_from, ParsedValue, field_of, fields_in, shape_of, is_text, items_are_text, entries_are_text}
use Rattle.qs_spec.specs.Data.{Data}
use Rattle.qs_spec.specs.internal.ReadFunction.{reads}
use Rattle.qs_data.specs.declared.shape.shape.Field as f
use Rattle.qs_data.specs.declared.shape.shape.Field.{Field, out-Field}
use Rattle.qs_data.proofs.lemmas.read.Errors.{and_left, and_right}
use Rattle.qs_data.proofs.lemmas.read.Steps.{before}

-- a value that isn't all text stands among entries that aren't
pub found_bad : (name : List ℕ) (es : Entries) (t : Tree) (ts : List Tree) → found name es ≡ t ∷ ts → is_text t ≡ false → entries_are_text es ≡ false
found_bad name no_entries t ts h n = absurd cc
found_bad name (entry k m u es) t ts h n = elim (cases_Bool (bytes_eq (segment_text k) name)) [
  | inl is ↦
      let here : u ∷ found name es ≡ t ∷ ts = sym (rw is) ∙ h in
      let same : u ≡ t = cc in
      and_left (is_utf8 (segment_text k) && is_text u) (entries_are_text es) (and_right (is_utf8 (segment_text k)) (is_text u) (ap is_text same ∙ n))
  | inr not ↦
      let rest : found name es ≡ t ∷ ts = sym (rw not) ∙ h in
      and_right (is_utf8 (segment_text k) && is_text u) (entries_are_text es) (found_bad name es t ts rest n)
]

pub field_none : (o p : Bool) (r : Reader) (ts : List Tree) (t : Tree) → ts ≡ t ∷ [] → r t ≡ None → read_field o p r ts ≡ None
field_none o p r ts t h n = ap (read_field o p r) h ∙ ap (option_map Some) n

abbrev reads_field : Bool → Field → Entries → Option (Option Data)
reads_field reject_duplicates d es = read_field (field_of d).2 (is_option (field_of d).1) (reads reject_duplicates (field_of d).1) (found (field_of d).0 es)

-- one more field by its name
module _ (reject_duplicates : Bool) (fs : List Field) (i : ℕ) (d : Field) (es : Entries) (ws : List Named) (here : i < length fs) (is : d ≡ get_or fs i d) where
  pub names_more : (o : Option Data) → reads_field reject_duplicates d es ≡ Some o
      → before ws (reads_names reject_duplicates (fields_in (drop i fs)) es) ≡ before ws (with_field (field_of d).0 o (reads_names reject_duplicates (fields_in (drop (i + 1) fs)) es))
  unfolding reads
  names_more o r =
      let split : drop i fs ≡ d ∷ drop (i + 1) fs = drop_more fs i d here ∙ ap (λ y. y ∷ drop (i + 1) fs) (sym is) in
      ap (λ ys. before ws (reads_names reject_duplicates (fields_in ys) es)) split
      ∙ ap (λ x. before ws (option_and_then (λ y. with_field (field_of d).0 y (reads_names reject_duplicates (fields_in (drop (i + 1) fs)) es)) x)) r

-- the items after the first
pub items_following : (i : ℕ) (ts : List ParsedValue) → items_after (items_from (map tree_of (drop i ts))) ≡ items_from (map tree_of (drop (i + 1) ts))
items_following zero [] = refl
items_following zero (t ∷ ts) = refl
items_following (suc i) [] = rw add-one
items_following (suc i) (t ∷ ts) = rw add-one (items_following i ts ∙ rw add-one)

-- the item at a place, and where there is none
pub item_at : (ts : List ParsedValue) (i : ℕ) (d : ParsedValue) → i < length ts → d ≡ get_or ts i d → items_from (map tree_of (drop i ts)) ≡ item (tree_of d) (items_from (map tree_of (drop (i + 1) ts)))
item_at ts i d here is = ap (λ ys. items_from (map tree_of ys)) (drop_more ts i d here ∙ ap (λ y. y ∷ drop (i + 1) ts) (sym is))

pub no_item_at : (ts : List ParsedValue) (i : ℕ) → length ts ≤ i → items_from (map tree_of (drop i ts)) ≡ no_items
no_item_at [] zero h = refl
no_item_at [] (suc i) h = refl
no_item_at (t ∷ ts) zero h = absurd (omega arith)
no_item_at (t ∷ ts) (suc i) h = no_item_at ts i (omega arith)

-- an item that isn't all text stands among items that aren't
pub item_bad : (ts : List ParsedValue) (i : ℕ) (d : ParsedValue) → i < length ts → d ≡ get_or ts i d → is_text (tree_of d) ≡ false → items_are_text (items_from (map tree_of ts)) ≡ false
item_bad [] i d h is n = absurd (omega arith)
item_bad (t ∷ ts) zero d h is n = and_left (is_text (tree_of t)) (items_are_text (items_from (map tree_of ts))) (ap (λ x. is_text (tree_of x)) (sym is) ∙ n)
item_bad (t ∷ ts) (suc i) d h is n = and_right (is_text (tree_of t)) (items_are_text (items_from (map tree_of ts))) (item_bad ts i d (omega arith) is n)

pub place_some : (o : Bool) (r : Reader) (xs more : Items) (t : Tree) → xs ≡ item t more → read_place o r xs ≡ option_map Some (r t)
place_some o r xs more t h = ap (read_place o r) h

abbrev reads_place : Bool → Field → List ParsedValue → Option (Option Data)
reads_place reject_duplicates d ts = read_place (field_of d).2 (reads reject_duplicates (field_of d).1) (items_from (map tree_of ts))

-- one more field by its place
module _ (reject_duplicates : Bool) (fs : List Field) (i : ℕ) (d : Field) (ts : List ParsedValue) (ws : List Named) (here : i < length fs) (is : d ≡ get_or fs i d) where
  abbrev rest : Option (List Named)
  rest = reads_places reject_duplicates (fields_in (drop (i + 1) fs)) (items_from (map tree_of (drop (i + 1) ts)))

  pub places_more : (o : Option Data) → reads_place reject_duplicates d (drop i ts) ≡ Some o
      → before ws (reads_places reject_duplicates (fields_in (drop i fs)) (items_from (map tree_of (drop i ts)))) ≡ before ws (with_field (field_of d).0 o rest)
  unfolding reads
  places_more o r =
      let split : drop i fs ≡ d ∷ drop (i + 1) fs = drop_more fs i d here ∙ ap (λ y. y ∷ drop (i + 1) fs) (sym is) in
      ap (λ ys. before ws (reads_places reject_duplicates (fields_in ys) (items_from (map tree_of (drop i ts))))) split
      ∙ ap (λ zs. before ws (option_and_then (λ y. with_field (field_of d).0 y (reads_places reject_duplicates (fields_in (drop (i + 1) fs)) zs)) (reads_place reject_duplicates d (drop i ts)))) (items_following i ts)
      ∙ ap (λ x. before ws (option_and_then (λ y. with_field (field_of d).0 y rest) x)) r

pub field_name : (d : Field) → (field_of d).0 ≡ string_bytes (out-Field d).name
field_name d = search (rules, f.the_lemmas)

pub field_shape : (d : Field) → (field_of d).1 ≡ shape_of (out-Field d).shape
field_shape d = search (rules, f.the_lemmas)

pub field_optional : (d : Field) → (field_of d).2 ≡ (out-Field d).optional
field_optional d = search (rules, f.the_lemmas)
