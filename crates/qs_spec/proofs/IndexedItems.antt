-- The items of a map whose keys are the indices of written elements.
use Rattle.std.proofs.Common.{◌≡◌, ℕ, ◌+◌, ◌<◌, ◌≤◌, Bool, true, cond, ◌==◌, List, [], ◌∷◌, refl, sym, ap, ap₂, ◌∙◌, arith, nat_lt, Option, Some, None, decimal, Less, Equal, Greater}
use Rattle.std.proofs.lemmas.Bool.Decides.{nat_tests}
use Rattle.qs_spec.specs.Segment.{Segment, compare_segments}
use Rattle.qs_spec.specs.Segment.Segment.{Int}
use Rattle.qs_spec.specs.Tree.{Tree, put, entries_of}
use Rattle.qs_spec.specs.Data.{Values, no_values, one_value}
use Rattle.qs_spec.specs.Node.{items, placed, are_ints, is_place}
use Rattle.qs_spec.specs.Config.{ArrayFormat}
use Rattle.qs_spec.proofs.Order.{put_lt}
use Rattle.qs_spec.proofs.KeysBack.{place_back}
use Rattle.qs_spec.specs.Plain.{count}
use Rattle.qs_spec.specs.internal.Parts.{value_branches}
use Rattle.qs_spec.proofs.Branches.{segment, keys}

module _ (fm : ArrayFormat) (is_form : Bool) where
  -- the keys of indices
  abbrev ints : ℕ → Values → List Segment
  ints i no_values = []
  ints i (one_value d ds) = Int i ∷ ints (i + 1) ds

  below_next : (i : ℕ) → compare_segments (Int i) (Int (i + 1)) ≡ Less
  below_next i = ap (λ b. cond b Less (cond (i == i + 1) Equal Greater)) (less i)
    where
      less : (i : ℕ) → nat_lt i (i + 1) ≡ true
      less i = grind (arith, nat_tests)

  keys_are : (i : ℕ) (ds : Values) → i + count ds ≤ 4294967295 → keys is_form (value_branches fm i ds) ≡ ints i ds
  keys_are i no_values l = refl
  keys_are i (one_value d ds) l = ap₂ put (place_back is_form i (omega arith)) (keys_are (i + 1) ds (omega arith)) ∙ first ds
    where
      first : (ds : Values) → put (Int i) (ints (i + 1) ds) ≡ Int i ∷ ints (i + 1) ds
      first no_values = refl
      first (one_value d ds) = put_lt (Int i) (Int (i + 1)) (ints (i + 1 + 1) ds) (below_next i)

  abbrev pub value_trees : (Segment → Tree) → ℕ → Values → List (Option Tree)
  value_trees f i no_values = []
  value_trees f i (one_value d ds) = Some (f (segment is_form (decimal i))) ∷ value_trees f (i + 1) ds

  module _ (escaped : Segment → Bool) (f : Segment → Tree) where
    int_keys : (i : ℕ) (ds : Values) → are_ints (entries_of escaped f (ints i ds)) ≡ true
    int_keys i no_values = refl
    int_keys i (one_value d ds) = int_keys (i + 1) ds

    in_place : (i : ℕ) → i < 4294967295 → is_place i (Int i) ≡ true
    in_place i l = grind (arith, nat_tests)

    in_places : (i : ℕ) (ds : Values) → i + count ds ≤ 4294967295 → placed i (entries_of escaped f (ints i ds)) ≡ value_trees f i ds
    in_places i no_values l = refl
    in_places i (one_value d ds) l =
        ap₂ (λ (b : Bool) (xs : List (Option Tree)). cond b (Some (f (Int i))) None ∷ xs) (in_place i (omega arith)) (in_places (i + 1) ds (omega arith))
        ∙ ap (λ k. Some (f k) ∷ value_trees f (i + 1) ds) (sym (place_back is_form i (omega arith)))

    pub items_are : (ds : Values) → 0 + count ds ≤ 4294967295 → items (Tree.mapping (entries_of escaped f (keys is_form (value_branches fm 0 ds)))) ≡ Some (value_trees f 0 ds)
    items_are ds l =
        ap (λ (ks : List Segment). items (Tree.mapping (entries_of escaped f ks))) (keys_are 0 ds l)
        ∙ ap₂ (λ (b : Bool) (xs : List (Option Tree)). cond b (Some xs) None) (int_keys 0 ds) (in_places 0 ds l)
