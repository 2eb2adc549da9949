-- The items of a tuple, read from those of a node.
use Rattle.std.proofs.Common.{◌≡◌, ℕ, ◌+◌, Bool, List, [], ◌∷◌, drop, Option, Some, None, refl, ap, ◌∙◌}
use Rattle.std.specs.Option.{option_map, option_and_then}
use Rattle.qs_spec.specs.Data as d
use Rattle.qs_spec.specs.Data.{Data, Values, values_of}
use Rattle.qs_spec.specs.Shape.{Shape, shapes_of}
use Rattle.qs_spec.specs.Tree.{Tree}
use Rattle.qs_spec.specs.Node.{items}
use Rattle.qs_spec.specs.internal.ReadFunction.{reads, reads_tuple, with_front}
use Rattle.qs_data.specs.read.Items.{first_item}
use Rattle.qs_data.proofs.lemmas.read.Items.{first_some}
use Rattle.serde_qs.specs.Held.{by_shapes}
use Rattle.serde_qs.specs.Meaning.{both}
use Rattle.serde_qs.specs.Tuples.{item_in, tuple_in}

no_pair : {A B : Type 0} (a : Option A) → None ≡ both {A = A} {B = B} a None
no_pair None = refl
no_pair (Some x) = refl

module _ {A B : Type 0} (m : Data → Option A) (others : Values → Option B) where
  first_read : (o : Option Data) (rest : Option (List Data))
      → option_and_then (λ ds. item_in m others (values_of ds)) (option_and_then (λ x. with_front x rest) o) ≡ both (option_and_then m o) (option_and_then (λ ds. others (values_of ds)) rest)
  first_read None rest = refl
  first_read (Some x) None = no_pair (m x)
  first_read (Some x) (Some ds) = refl

  module _ (reject_duplicates : Bool) (s : Shape) (shape : List Shape) (xs : List (Option Tree)) (i : ℕ) where
    pub item_read : (t : Tree) → first_item (drop i xs) ≡ Some (Some t)
        → by_shapes reject_duplicates (s ∷ shape) (item_in m others) (drop i xs) ≡ both (option_and_then m (reads reject_duplicates s t)) (by_shapes reject_duplicates shape others (drop (i + 1) xs))
    unfolding reads
    item_read t h = ap (by_shapes reject_duplicates (s ∷ shape) (item_in m others)) (first_some xs i t h) ∙ first_read (reads reject_duplicates s t) (reads_tuple reject_duplicates (shapes_of shape) (drop (i + 1) xs))

    pub item_rejected : first_item (drop i xs) ≡ None → by_shapes reject_duplicates (s ∷ shape) (item_in m others) (drop i xs) ≡ None
    unfolding reads
    item_rejected h = by (drop i xs) h
      where
        by : (ys : List (Option Tree)) → first_item ys ≡ None → by_shapes reject_duplicates (s ∷ shape) (item_in m others) ys ≡ None
        by [] h = absurd cc
        by (None ∷ ys) h = refl
        by (Some t ∷ ys) h = absurd cc

    pub item_missing : first_item (drop i xs) ≡ Some None → by_shapes reject_duplicates (s ∷ shape) (item_in m others) (drop i xs) ≡ None
    unfolding reads
    item_missing h = by (drop i xs) h
      where
        by : (ys : List (Option Tree)) → first_item ys ≡ Some None → by_shapes reject_duplicates (s ∷ shape) (item_in m others) ys ≡ None
        by [] h = refl
        by (None ∷ ys) h = absurd cc
        by (Some t ∷ ys) h = absurd cc

-- a tuple, and a tuple variant, of the items of a node

pub tuple_items : {W : Type 0} (inside : Data → Option W) (made : Values → Data) (m : Values → Option W) → ((ds : Values) → inside (made ds) ≡ m ds) → (reject_duplicates : Bool) (shape : List Shape) (xs : Option (List (Option Tree)))
    → option_and_then inside (option_map (λ ds. made (values_of ds)) (option_and_then (reads_tuple reject_duplicates (shapes_of shape)) xs)) ≡ option_and_then (by_shapes reject_duplicates shape m) xs
tuple_items inside made m h reject_duplicates shape None = refl
tuple_items {W} inside made m h reject_duplicates shape (Some xs) = by (reads_tuple reject_duplicates (shapes_of shape) xs)
  where
    by : (o : Option (List Data)) → option_and_then inside (option_map (λ ds. made (values_of ds)) o) ≡ option_and_then (λ ds. m (values_of ds)) o
    by None = refl
    by (Some ds) = h (values_of ds)

pub tuple_read : {V : Type 0} (m : Values → Option V) (reject_duplicates : Bool) (shape : List Shape) (t : Tree) → option_and_then (tuple_in m) (reads reject_duplicates (Shape.tuple (shapes_of shape)) t) ≡ option_and_then (by_shapes reject_duplicates shape m) (items t)
unfolding reads
tuple_read m reject_duplicates shape t = tuple_items (tuple_in m) d.tuple m (λ ds. refl) reject_duplicates shape (items t)
