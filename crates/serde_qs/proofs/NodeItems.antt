-- The items of a node as values.
use Rattle.std.proofs.Common.{◌≡◌, ℕ, ◌+◌, ◌≤◌, Bool, List, [], ◌∷◌, ◌++◌, drop, length, Option, Some, None, refl, sym, ap, ◌∙◌, append-nil}
use Rattle.std.specs.Option.{option_map, option_and_then}
use Rattle.std.proofs.lemmas.List.{drop_all}
use Rattle.qs_spec.specs.Data as d
use Rattle.qs_spec.specs.Data.{Data, values_of}
use Rattle.qs_spec.specs.Shape.{Shape}
use Rattle.qs_spec.specs.Tree.{Tree}
use Rattle.qs_spec.specs.Node.{items}
use Rattle.qs_spec.specs.internal.ReadFunction.{Reader, read_each, read_list, reads, with_front}
use Rattle.qs_data.specs.read.Items.{first_item}
use Rattle.qs_data.proofs.lemmas.read.Items.{first_end, first_some}
use Rattle.serde_qs.specs.Meaning.{sequence_in, values_meant}
use Rattle.serde_qs.specs.internal.NodeParts.{each_value}
use Rattle.qs_data.proofs.lemmas.read.Steps.{before, before-front}

module _ {V : Type 0} (m : Data → Option V) (r : Reader) where
  abbrev value_at : Tree → Option V
  value_at t = option_and_then m (r t)

  one_more : (x : Option Data) (rest : Option (List Data)) (more : Option (List V)) → option_and_then (λ ds. values_meant m (values_of ds)) rest ≡ more
      → option_and_then (λ ds. values_meant m (values_of ds)) (option_and_then (λ e. with_front e rest) x) ≡ option_and_then (λ v. option_map (λ vs. v ∷ vs) more) (option_and_then m x)
  one_more None rest more h = refl
  one_more (Some e) (Some ds) more h = ap (λ y. option_and_then (λ v. option_map (λ vs. v ∷ vs) y) (m e)) h
  one_more (Some e) None more h = sym (nowhere (m e)) ∙ ap (λ y. option_and_then (λ v. option_map (λ vs. v ∷ vs) y) (m e)) h
    where
      nowhere : (o : Option V) → option_and_then (λ v. option_map (λ vs. v ∷ vs) None) o ≡ None
      nowhere None = refl
      nowhere (Some v) = refl

  due : (x : Option Tree) → option_and_then m (option_and_then r x) ≡ option_and_then value_at x
  due None = refl
  due (Some t) = refl

  each_meant : (xs : List (Option Tree)) → option_and_then (λ ds. values_meant m (values_of ds)) (read_each r xs) ≡ each_value value_at xs
  each_meant [] = refl
  each_meant (x ∷ xs) =
      one_more (option_and_then r x) (read_each r xs) (each_value value_at xs) (each_meant xs)
      ∙ ap (λ o. option_and_then (λ v. option_map (λ vs. v ∷ vs) (each_value value_at xs)) o) (due x)

  all_meant : (xs : Option (List (Option Tree))) → option_and_then (λ ds. values_meant m (values_of ds)) (option_and_then (read_each r) xs) ≡ option_and_then (each_value value_at) xs
  all_meant None = refl
  all_meant (Some xs) = each_meant xs

  in_sequence : (o : Option (List Data)) → option_and_then (sequence_in m) (option_map (λ ds. d.sequence (values_of ds)) o) ≡ option_and_then (λ ds. values_meant m (values_of ds)) o
  in_sequence None = refl
  in_sequence (Some ds) = refl

  pub list_meant : (t : Tree) → option_and_then (sequence_in m) (option_map (λ ds. d.sequence (values_of ds)) (read_list r t)) ≡ option_and_then (each_value value_at) (items t)
  unfolding read_list
  list_meant t = in_sequence (read_list r t) ∙ all_meant (items t)

pub sequence_read : {V : Type 0} (m : Data → Option V) (reject_duplicates : Bool) (shape : Shape) (t : Tree) → option_and_then (sequence_in m) (reads reject_duplicates (Shape.sequence shape) t) ≡ option_and_then (each_value (λ n. option_and_then m (reads reject_duplicates shape n))) (items t)
unfolding reads
sequence_read m reject_duplicates shape t = list_meant m (reads reject_duplicates shape) t

-- one more item of a list
module _ {V : Type 0} (r : Tree → Option V) (xs : List (Option Tree)) (i : ℕ) (ws : List V) where
  pub value_more : (t : Tree) (v : V) → first_item (drop i xs) ≡ Some (Some t) → r t ≡ Some v → before ws (each_value r (drop i xs)) ≡ before (ws ++ v ∷ []) (each_value r (drop (i + 1) xs))
  value_more t v h g =
      ap (λ ys. before ws (each_value r ys)) (first_some xs i t h)
      ∙ ap (λ o. before ws (option_and_then (λ x. option_map (λ vs. x ∷ vs) (each_value r (drop (i + 1) xs))) o)) g
      ∙ before-front ws v (each_value r (drop (i + 1) xs))

  pub value_unread : (t : Tree) → first_item (drop i xs) ≡ Some (Some t) → r t ≡ None → before ws (each_value r (drop i xs)) ≡ None
  value_unread t h g =
      ap (λ ys. before ws (each_value r ys)) (first_some xs i t h)
      ∙ ap (λ o. before ws (option_and_then (λ x. option_map (λ vs. x ∷ vs) (each_value r (drop (i + 1) xs))) o)) g

  pub value_rejected : first_item (drop i xs) ≡ None → before ws (each_value r (drop i xs)) ≡ None
  value_rejected h = ap (before ws) (by (drop i xs) h)
    where
      by : (ys : List (Option Tree)) → first_item ys ≡ None → each_value r ys ≡ None
      by [] h = absurd cc
      by (None ∷ ys) h = refl
      by (Some t ∷ ys) h = absurd cc

  pub value_end : first_item (drop i xs) ≡ Some None → before ws (each_value r (drop i xs)) ≡ Some ws
  value_end h = ap (λ ys. before ws (each_value r ys)) (first_end (drop i xs) h) ∙ ap Some (append-nil ws)

  pub value_all : length xs ≤ i → before ws (each_value r (drop i xs)) ≡ Some ws
  value_all h = ap (λ ys. before ws (each_value r ys)) (drop_all i xs h) ∙ ap Some (append-nil ws)
