-- How the elements of a list stand in a node: at their indices, or as leaves that keep their order.
use Rattle.std.proofs.Common.{◌≡◌, ℕ, Bool, true, false, not, List, [], ◌∷◌, map, refl, sym, ap, ◌∙◌, subst, Option, Some, None}
use Rattle.std.specs.List.{list_any, AllByRecursion}
use Rattle.qs_spec.specs.Escape.{encoded, has_escape}
use Rattle.qs_spec.specs.Leaf.{Leaf, value_leaf}
use Rattle.qs_spec.specs.Leaf.Leaf.{Text}
use Rattle.qs_spec.specs.Grammar.{Pair}
use Rattle.qs_spec.specs.History.{event, is_below}
use Rattle.qs_spec.specs.Tree.{Tree, node_within, node_of_leaves, leaves_in, leaf_items}
use Rattle.qs_spec.specs.Data.{Data, Values, no_values, one_value}
use Rattle.qs_spec.specs.Node.{sequence_items, items}
use Rattle.qs_spec.specs.Entry.{key_text}
use Rattle.qs_spec.specs.Config.{ArrayFormat, indexed, empty_indexed, unindexed}
use Rattle.qs_spec.proofs.Reorder.{Swaps}
use Rattle.qs_spec.proofs.Insert.{node_is_of_leaves}
use Rattle.qs_spec.specs.internal.WrittenEntries.{entry_leaf}
use Rattle.qs_spec.proofs.Booleans.{and_both, not_of}
use Rattle.qs_spec.proofs.KeysBack.{leaf_back}
use Rattle.qs_spec.specs.Plain.{has_bytes}
use Rattle.qs_spec.specs.Listed.{has_text, are_scalars, is_empty_text, is_one_empty, is_list}
use Rattle.qs_spec.specs.internal.Parts.{list_parts, value_parts, branches, value_branches}
use Rattle.qs_spec.proofs.Permuted.{swaps_here}
use Rattle.qs_spec.proofs.Branches.{pairs}
use Rattle.qs_spec.proofs.GoodParts.{AreBytes}
use Rattle.qs_spec.proofs.IsBack.{IsValued}

-- how the elements of a list stand: by their indices, or as leaves, pushed or side by side
pub data ListCase (fm : ArrayFormat) (ds : Values) : Type 0 where
  places : value_parts fm ds ≡ branches (value_branches fm 0 ds) → ListCase fm ds
  leaves : (push : Bool) → value_parts fm ds ≡ list_parts push ds → are_scalars ds ≡ true → (push ≡ false → is_one_empty ds ≡ false) → ListCase fm ds

pub list_case : (fm : ArrayFormat) (ds : Values) → is_list fm ds ≡ true → ListCase fm ds
list_case indexed ds e = ListCase.places refl
list_case empty_indexed ds e = ListCase.leaves true refl e (λ w. cc)
list_case unindexed ds e = let h = and_both (are_scalars ds) (not (is_one_empty ds)) e in ListCase.leaves false refl h.0 (λ w. not_of (is_one_empty ds) h.1)

abbrev pub leaf_trees : List Leaf → List (Option Tree)
leaf_trees [] = []
leaf_trees (l ∷ ls) = Some (Tree.leaf l) ∷ leaf_trees ls

abbrev list_tree : Bool → List Leaf → Tree
list_tree true ls = Tree.sequence (leaf_items ls)
list_tree false [] = Tree.sequence (leaf_items [])
list_tree false (l ∷ []) = Tree.leaf l
list_tree false (l ∷ m ∷ ls) = Tree.sequence (leaf_items (l ∷ m ∷ ls))

each_leaf : (ls : List Leaf) → sequence_items (leaf_items ls) ≡ leaf_trees ls
each_leaf [] = refl
each_leaf (l ∷ ls) = ap (λ (xs : List (Option Tree)). Some (Tree.leaf l) ∷ xs) (each_leaf ls)

module _ (is_form : Bool) where
  abbrev pub list_leaves : Values → List Leaf
  list_leaves no_values = []
  list_leaves (one_value d ds) = entry_leaf is_form (key_text d) ∷ list_leaves ds

  list_no_below : (push : Bool) (ds : Values) → list_any is_below (map event (pairs is_form (list_parts push ds))) ≡ false
  list_no_below push no_values = refl
  list_no_below true (one_value d ds) = list_no_below true ds
  list_no_below false (one_value d ds) = list_no_below false ds

  leaves_are : (push : Bool) (ds : Values) → leaves_in (map event (pairs is_form (list_parts push ds))) ≡ list_leaves ds
  leaves_are push no_values = refl
  leaves_are true (one_value d ds) = ap (λ (ls : List Leaf). entry_leaf is_form (key_text d) ∷ ls) (leaves_are true ds)
  leaves_are false (one_value d ds) = ap (λ (ls : List Leaf). entry_leaf is_form (key_text d) ∷ ls) (leaves_are false ds)

  flat_list : (push : Bool) (d : Data) (ds : Values) → node_of_leaves (map event (pairs is_form (list_parts push (one_value d ds)))) ≡ list_tree push (list_leaves (one_value d ds))
  flat_list true d ds = ap (λ (ls : List Leaf). Tree.sequence (leaf_items (entry_leaf is_form (key_text d) ∷ ls))) (leaves_are true ds)
  flat_list false d no_values = refl
  flat_list false d (one_value e ds) = ap (λ (ls : List Leaf). Tree.sequence (leaf_items (entry_leaf is_form (key_text d) ∷ entry_leaf is_form (key_text e) ∷ ls))) (leaves_are false ds)

  list_here : (push : Bool) (ds : Values) → AllByRecursion (λ (p : Pair). p.path ≡ []) (pairs is_form (list_parts push ds))
  list_here push no_values = tt
  list_here push (one_value d ds) = (refl, list_here push ds)

  -- the node of a list's leaves, which keep their order
  pub list_node : (n : ℕ) (push : Bool) (d : Data) (ds : Values) (ps : List Pair) → Swaps (pairs is_form (list_parts push (one_value d ds))) ps → node_within n ps ≡ list_tree push (list_leaves (one_value d ds))
  list_node n push d ds ps w =
      ap (node_within n) (swaps_here (list_here push (one_value d ds)) w)
      ∙ node_is_of_leaves n (pairs is_form (list_parts push (one_value d ds))) (list_no_below push (one_value d ds)) ∙ flat_list push d ds

  pub text_leaf : (t : List ℕ) → has_bytes t ≡ true → AreBytes t → (m : Bool) × (value_leaf (encoded is_form t) ≡ Text t m)
  text_leaf [] e h = cc
  text_leaf (b ∷ t) e h = (has_escape (encoded is_form (b ∷ t)), leaf_back is_form b t h)

  abbrev IsByteValue2 : Option (List ℕ) → Type 0
  IsByteValue2 None = Unit {0}
  IsByteValue2 (Some v) = AreBytes v

  text_tree : (o : Option (List ℕ)) → has_text o ≡ true → is_empty_text o ≡ false → IsByteValue2 o → (t : List ℕ) × (m : Bool) × (entry_leaf is_form o ≡ Text t m)
  text_tree None e f h = cc
  text_tree (Some []) e f h = cc
  text_tree (Some (b ∷ t)) e f h = let g = text_leaf (b ∷ t) refl h in (b ∷ t, g.0, g.1)

  pub list_items : (push : Bool) (d : Data) (ds : Values) → are_scalars (one_value d ds) ≡ true → (push ≡ false → is_one_empty (one_value d ds) ≡ false) → IsByteValue2 (key_text d)
      → (items (list_tree push (list_leaves (one_value d ds))) ≡ Some (leaf_trees (list_leaves (one_value d ds)))) × IsValued (list_tree push (list_leaves (one_value d ds)))
  list_items true d ds e f h = (ap Some (each_leaf (list_leaves (one_value d ds))), tt)
  list_items false d no_values e f h =
      let t = text_tree (key_text d) (and_both (has_text (key_text d)) true e).0 (f refl) h in
      (ap (λ (l : Leaf). items (Tree.leaf l)) t.2 ∙ sym (ap (λ (l : Leaf). Some (Some (Tree.leaf l) ∷ [])) t.2), subst (λ (l : Leaf). IsValued (Tree.leaf l)) (sym t.2) tt)
  list_items false d (one_value e ds) s f h = (ap Some (each_leaf (list_leaves (one_value d (one_value e ds)))), tt)
