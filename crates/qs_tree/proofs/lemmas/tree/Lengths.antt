-- Lists of other lengths are not the same.
use Rattle.qs_tree.proofs.Common.{◌≡◌, ◌≢◌, suc, Bool, false, ◌&&◌, List, [], ◌∷◌, length, refl, ap, ◌∙◌, is_same_segment, ParsedValue, tree_same, items_same, entries_same, segment_of_key, tree_of, items_of}
use Rattle.std.proofs.Math.Bool.{and-false}
use Rattle.qs_tree.proofs.lemmas.tree.Keys.{Held, entries_view}

pub other_items : (xs ys : List ParsedValue) → length xs ≢ length ys → items_same (items_of xs) (items_of ys) ≡ false
other_items [] [] differ = absurd (differ refl)
other_items (x ∷ xs) (y ∷ ys) differ =
    ap (λ b. tree_same (tree_of x) (tree_of y) && b) (other_items xs ys (λ same. differ (ap suc same))) ∙ and-false (tree_same (tree_of x) (tree_of y))
other_items xs ys differ = refl

pub other_entries : (es fs : Held) → length es ≢ length fs → entries_same (entries_view es) (entries_view fs) ≡ false
other_entries [] [] differ = absurd (differ refl)
other_entries (e ∷ es) (f ∷ fs) differ =
    let here : Bool = is_same_segment (segment_of_key e.0) (segment_of_key f.0) && tree_same (tree_of e.1) (tree_of f.1) in
    ap (λ b. here && b) (other_entries es fs (λ same. differ (ap suc same))) ∙ and-false here
other_entries es fs differ = refl
