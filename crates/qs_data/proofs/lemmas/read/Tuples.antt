-- The parts of a tuple, one after the other.
use Rattle.qs_data.proofs.Common.{◌≡◌, ℕ, Bool, ◌+◌, ◌<◌, List, [], ◌∷◌, ◌++◌, length, get_or, drop, Option, Some, None, refl, sym, ap, inl, inr, ◌⊎◌, ◌∙◌, drop_more, option_and_then, Tree, reads_tuple, with_front, shape_of, shapes_in, first_item}
use Rattle.qs_spec.specs.Data.{Data}
use Rattle.qs_spec.specs.internal.ReadFunction.{reads}
use Rattle.qs_data.specs.declared.shape.shape.Shape.{Shape}
use Rattle.qs_data.proofs.lemmas.read.Items.{first_some}
use Rattle.qs_data.proofs.lemmas.read.Steps.{before, before-front}

-- an item that is missing
none_due : (reject_duplicates : Bool) (s : Shape) (ss : List Shape) (xs : List (Option Tree)) → (first_item xs ≡ None) ⊎ (first_item xs ≡ Some None) → reads_tuple reject_duplicates (shapes_in (s ∷ ss)) xs ≡ None
unfolding reads
none_due reject_duplicates s ss [] h = refl
none_due reject_duplicates s ss (None ∷ xs) h = refl
none_due reject_duplicates s ss (Some t ∷ xs) (inl h) = absurd cc
none_due reject_duplicates s ss (Some t ∷ xs) (inr h) = absurd cc

module _ (reject_duplicates : Bool) (ss : List Shape) (i : ℕ) (s : Shape) (xs : List (Option Tree)) (ws : List Data) (here : i < length ss) (is : s ≡ get_or ss i s) where
  abbrev rest : Option (List Data)
  rest = reads_tuple reject_duplicates (shapes_in (drop (i + 1) ss)) (drop (i + 1) xs)

  parts_at : (t : Tree) → first_item (drop i xs) ≡ Some (Some t)
      → before ws (reads_tuple reject_duplicates (shapes_in (drop i ss)) (drop i xs)) ≡ before ws (option_and_then (λ d. with_front d rest) (reads reject_duplicates (shape_of s) t))
  unfolding reads
  parts_at t h =
      let split : drop i ss ≡ s ∷ drop (i + 1) ss = drop_more ss i s here ∙ ap (λ y. y ∷ drop (i + 1) ss) (sym is) in
      ap (λ ys. before ws (reads_tuple reject_duplicates (shapes_in ys) (drop i xs))) split
      ∙ ap (λ ys. before ws (reads_tuple reject_duplicates (shapes_in (s ∷ drop (i + 1) ss)) ys)) (first_some xs i t h)

  pub parts_more : (t : Tree) (d : Data) → first_item (drop i xs) ≡ Some (Some t) → reads reject_duplicates (shape_of s) t ≡ Some d
      → before ws (reads_tuple reject_duplicates (shapes_in (drop i ss)) (drop i xs)) ≡ before (ws ++ d ∷ []) rest
  parts_more t d h g = parts_at t h ∙ ap (λ o. before ws (option_and_then (λ d. with_front d rest) o)) g ∙ before-front ws d rest

  pub parts_unread : (t : Tree) → first_item (drop i xs) ≡ Some (Some t) → reads reject_duplicates (shape_of s) t ≡ None
      → before ws (reads_tuple reject_duplicates (shapes_in (drop i ss)) (drop i xs)) ≡ None
  parts_unread t h g = parts_at t h ∙ ap (λ o. before ws (option_and_then (λ d. with_front d rest) o)) g

  no_part : (first_item (drop i xs) ≡ None) ⊎ (first_item (drop i xs) ≡ Some None) → before ws (reads_tuple reject_duplicates (shapes_in (drop i ss)) (drop i xs)) ≡ None
  no_part h =
      let split : drop i ss ≡ s ∷ drop (i + 1) ss = drop_more ss i s here ∙ ap (λ y. y ∷ drop (i + 1) ss) (sym is) in
      ap (λ ys. before ws (reads_tuple reject_duplicates (shapes_in ys) (drop i xs))) split ∙ ap (before ws) (none_due reject_duplicates s (drop (i + 1) ss) (drop i xs) h)

  pub parts_missing : first_item (drop i xs) ≡ None → before ws (reads_tuple reject_duplicates (shapes_in (drop i ss)) (drop i xs)) ≡ None
  parts_missing h = no_part (inl h)

  pub parts_beyond : first_item (drop i xs) ≡ Some None → before ws (reads_tuple reject_duplicates (shapes_in (drop i ss)) (drop i xs)) ≡ None
  parts_beyond h = no_part (inr h)
