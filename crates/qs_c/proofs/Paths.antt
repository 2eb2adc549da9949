-- Steps along a path.
use Rattle.std.proofs.Common.{◌≡◌, ◌⊎◌, inl, inr, ◌<◌, ℕ, zero, suc, Bool, true, false, List, [], drop, map, slice_get, Option, Some, None, refl, sym, ap, ◌∙◌, arith, rules}
use Rattle.std.proofs.Math.Nat.{le-max_left}
use Rattle.std.proofs.lemmas.Option.{same_Some}
use Rattle.std.specs.Borrow.{Bor}
use Rattle.std.specs.Prelude.{option_and_then, option_map}
use Rattle.std.specs.Slice.{IsItemAt}
use Rattle.std.specs.declared.alloc.Global.{Global}
use Rattle.std.specs.declared.borrow.CowSlice.{CowSlice}
use Rattle.std.specs.declared.borrow.CowSlice.TheVariants.{Borrowed, Owned}
use Rattle.qs_spec.specs.Holds.{nesting, entries_nesting}
use Rattle.qs_spec.specs.Leaf.Leaf.{NoValue, Null, Text}
use Rattle.qs_spec.specs.Segment.{ParsedSegment, Segment}
use Rattle.qs_spec.specs.Tree.{Tree, Entries}
use Rattle.qs_spec.specs.Tree.Tree.{leaf, sequence, mapping, uninitialized}
use Rattle.qs_spec.specs.Tree.Entries.{no_entries, entry}
use Rattle.qs_tree.specs.tree.Views.{tree_of, items_of, entry_list}
use Rattle.qs_tree.specs.declared.tree.value.ParsedValue as value
use Rattle.qs_tree.specs.declared.tree.value.ParsedValue.{ParsedValue, String, the_lemmas}
use Rattle.qs_spec.specs.Node.{sequence_items}
use Rattle.qs_tree.specs.tree.Views.{items_from}
use Rattle.qs_data.proofs.lemmas.read.Fields.{item_at as item_here, no_item_at}
use Rattle.qs_data.proofs.lemmas.read.Items.{each_at}
use Rattle.qs_c.specs.Paths.{child, first_there, index_of, item_at}

-- what stands below the first entry nests less
pub falls : (es : Entries) (x : ParsedSegment × Tree) → slice_get (entry_list es) 0 ≡ Some x → nesting x.1 < nesting (mapping es)
falls no_entries x h = absurd cc
falls (entry k m t es) x h =
    let same : nesting t ≡ nesting x.1 = ap (λ (y : ParsedSegment × Tree). nesting y.1) (same_Some (record { segment = k; escaped = m }, t) x h) in
    let least = le-max_left (nesting t) (entries_nesting es) in
    omega (arith, same, least)

-- the item at an index of a sequence
value_there : (ts : List ParsedValue) (i : ℕ) (r : Option (Bor ParsedValue)) → IsItemAt ts i r → option_map (λ v. tree_of v.now) r ≡ first_there (drop i (sequence_items (items_from (map tree_of ts))))
value_there ts i None h = sym (ap first_there (each_at i ts ∙ ap sequence_items (no_item_at ts i h.3)))
value_there ts i (Some v) h = sym (ap first_there (each_at i ts ∙ ap sequence_items (item_here ts i v.now h.3.0 h.1)))

-- no item is beyond the end
none_after : (i : ℕ) → first_there (drop i []) ≡ None
none_after zero = refl
none_after (suc i) = refl

no_item : (i : Option ℕ) → option_and_then (λ j. first_there (drop j [])) i ≡ None
no_item None = refl
no_item (Some i) = none_after i

no_list : (i : Option ℕ) → option_and_then (λ j. item_at j uninitialized) i ≡ None
no_list None = refl
no_list (Some i) = refl

module _ (k : Segment) where
  -- of a sequence
  pub sequence_child : (i : ℕ) (ts : List ParsedValue) (r : Option (Bor ParsedValue)) → index_of k ≡ Some i → IsItemAt ts i r → option_map (λ v. tree_of v.now) r ≡ child k (sequence (items_of ts))
  sequence_child i ts r is h = value_there ts i r h ∙ sym (ap (option_and_then (λ j. item_at j (sequence (items_of ts)))) is)

  -- of a text
  no_leaf_child : (bytes : List ℕ) (escaped : Bool) (i : ℕ) → index_of k ≡ Some i → (i ≡ 0 → ⊥) → child k (leaf (Text bytes escaped)) ≡ None
  no_leaf_child bytes escaped zero is other = absurd (other refl)
  no_leaf_child bytes escaped (suc i) is other = ap (option_and_then (λ j. item_at j (leaf (Text bytes escaped)))) is ∙ none_after i

  pub no_text_child : (s : CowSlice ℕ Global) (i : ℕ) → index_of k ≡ Some i → (i ≡ 0 → ⊥) → child k (tree_of (String s)) ≡ None
  no_text_child (Borrowed r) i is other =
      let seen : tree_of (String (Borrowed r)) ≡ leaf (Text r.now false) = search (rules, the_lemmas) in
      ap (child k) seen ∙ no_leaf_child r.now false i is other
  no_text_child (Owned v) i is other =
      let seen : tree_of (String (Owned v)) ≡ leaf (Text v.items true) = search (rules, the_lemmas) in
      ap (child k) seen ∙ no_leaf_child v.items true i is other

  -- of nothing
  pub no_child : (n : ParsedValue) → n ≡ value.NoValue ⊎ (n ≡ value.Null ⊎ n ≡ value.Uninitialized) → child k (tree_of n) ≡ None
  no_child n (inl is) =
      let seen : tree_of value.NoValue ≡ leaf NoValue = search (rules, the_lemmas) in
      ap (λ (m : ParsedValue). child k (tree_of m)) is ∙ ap (child k) seen ∙ no_item (index_of k)
  no_child n (inr (inl is)) =
      let seen : tree_of value.Null ≡ leaf Null = search (rules, the_lemmas) in
      ap (λ (m : ParsedValue). child k (tree_of m)) is ∙ ap (child k) seen ∙ no_item (index_of k)
  no_child n (inr (inr is)) =
      let seen : tree_of value.Uninitialized ≡ uninitialized = search (rules, the_lemmas) in
      ap (λ (m : ParsedValue). child k (tree_of m)) is ∙ ap (child k) seen ∙ no_list (index_of k)
