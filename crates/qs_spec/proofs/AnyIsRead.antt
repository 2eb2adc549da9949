-- Anything that is a list or a map is read as one, by the shape of anything.
use Rattle.std.proofs.Common.{◌≡◌, ℕ, Bool, true, false, cond, ◌+◌, List, ◌∷◌, Option, Some, None, refl, sym, ap, ◌∙◌}
use Rattle.std.specs.Option.{option_map, option_and_then}
use Rattle.qs_spec.specs.Segment.{segment_text}
use Rattle.qs_spec.specs.Tree.{Items, Entries}
use Rattle.qs_spec.specs.Tree.Tree.{sequence, mapping}
use Rattle.qs_spec.specs.Tree.Items.{item, no_items}
use Rattle.qs_spec.specs.Tree.Entries.{entry, no_entries}
use Rattle.qs_spec.specs.Data.{Data, one_value, one_pair, values_of, pairs_of}
use Rattle.qs_spec.specs.Shape.{Shape, KeyShape}
use Rattle.qs_spec.specs.Scalar.{text_data}
use Rattle.qs_spec.specs.Node.{are_ints, is_place, placed, sequence_items}
use Rattle.qs_spec.specs.internal.ReadFunction.{read_each, read_list, with_front, read_pairs, read_map, any_data, any_items, any_places, any_pairs, reads}

value_step : (o : Option Data) (r : Option (List Data)) → option_and_then (λ d. option_map (one_value d) (option_map values_of r)) o ≡ option_map values_of (option_and_then (λ d. with_front d r) o)
value_step None r = refl
value_step (Some d) None = refl
value_step (Some d) (Some ds) = refl

items_read : (xs : Items) → any_items xs ≡ option_map values_of (read_each any_data (sequence_items xs))
unfolding any_items
items_read no_items = refl
items_read (item t xs) = ap (λ r. option_and_then (λ d. option_map (one_value d) r) (any_data t)) (items_read xs) ∙ value_step (any_data t) (read_each any_data (sequence_items xs))

places_read : (i : ℕ) (es : Entries) → any_places i es ≡ option_map values_of (read_each any_data (placed i es))
unfolding any_places
places_read i no_entries = refl
places_read i (entry k m t es) = by (is_place i k) (places_read (i + 1) es)
  where
    by : (b : Bool) → any_places (i + 1) es ≡ option_map values_of (read_each any_data (placed (i + 1) es))
        → cond b (option_and_then (λ d. option_map (one_value d) (any_places (i + 1) es)) (any_data t)) None ≡ option_map values_of (read_each any_data (cond b (Some t) None ∷ placed (i + 1) es))
    by true e = ap (λ r. option_and_then (λ d. option_map (one_value d) r) (any_data t)) e ∙ value_step (any_data t) (read_each any_data (placed (i + 1) es))
    by false e = refl

pair_step : (a o : Option Data) (r : Option (List (Data × Data)))
    → option_and_then (λ a. option_and_then (λ d. option_map (one_pair a d) (option_map pairs_of r)) o) a ≡ option_map pairs_of (option_and_then (λ a. option_and_then (λ d. with_front (a, d) r) o) a)
pair_step None o r = refl
pair_step (Some a) None r = refl
pair_step (Some a) (Some d) None = refl
pair_step (Some a) (Some d) (Some ps) = refl

pairs_read : (es : Entries) → any_pairs es ≡ option_map pairs_of (read_pairs KeyShape.text any_data es)
unfolding any_pairs
pairs_read no_entries = refl
pairs_read (entry k m t es) =
    ap (λ r. option_and_then (λ a. option_and_then (λ d. option_map (one_pair a d) r) (any_data t)) (text_data (segment_text k))) (pairs_read es)
    ∙ pair_step (text_data (segment_text k)) (any_data t) (read_pairs KeyShape.text any_data es)

twice : {A B C : Type 0} (f : B → C) (g : A → B) (o : Option A) → option_map f (option_map g o) ≡ option_map (λ a. f (g a)) o
twice f g None = refl
twice f g (Some a) = refl

pub sequence_is : (xs : Items) → any_data (sequence xs) ≡ option_map (λ ds. Data.sequence (values_of ds)) (read_each any_data (sequence_items xs))
unfolding any_data
sequence_is xs = ap (option_map Data.sequence) (items_read xs) ∙ twice Data.sequence values_of (read_each any_data (sequence_items xs))

pub places_are : (es : Entries) → are_ints es ≡ true → any_data (mapping es) ≡ option_map (λ ds. Data.sequence (values_of ds)) (read_each any_data (placed 0 es))
unfolding any_data
places_are es e =
    ap (λ b. cond b (option_map Data.sequence (any_places 0 es)) (option_map Data.mapping (any_pairs es))) e
    ∙ ap (option_map Data.sequence) (places_read 0 es) ∙ twice Data.sequence values_of (read_each any_data (placed 0 es))

pub map_is : (es : Entries) → are_ints es ≡ false → any_data (mapping es) ≡ option_map (λ ps. Data.mapping (pairs_of ps)) (read_pairs KeyShape.text any_data es)
unfolding any_data
map_is es e =
    ap (λ b. cond b (option_map Data.sequence (any_places 0 es)) (option_map Data.mapping (any_pairs es))) e
    ∙ ap (option_map Data.mapping) (pairs_read es) ∙ twice Data.mapping pairs_of (read_pairs KeyShape.text any_data es)

pub sequence_of_any : (reject_duplicates : Bool) (xs : Items) → reads reject_duplicates (Shape.sequence Shape.any) (sequence xs) ≡ any_data (sequence xs)
unfolding reads read_list
sequence_of_any reject_duplicates xs = sym (sequence_is xs)

pub places_of_any : (reject_duplicates : Bool) (es : Entries) → are_ints es ≡ true → reads reject_duplicates (Shape.sequence Shape.any) (mapping es) ≡ any_data (mapping es)
unfolding reads read_list
places_of_any reject_duplicates es e =
    ap (λ b. option_map (λ ds. Data.sequence (values_of ds)) (option_and_then (read_each any_data) (cond b (Some (placed 0 es)) None))) e ∙ sym (places_are es e)

pub map_of_any : (reject_duplicates : Bool) (es : Entries) → are_ints es ≡ false → reads reject_duplicates (Shape.mapping KeyShape.text Shape.any) (mapping es) ≡ any_data (mapping es)
unfolding reads read_map
map_of_any reject_duplicates es e = sym (map_is es e)
