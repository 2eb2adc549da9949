-- The lines of explanations, one after another.
use Rattle.std.proofs.Common.{◌≡◌, ◌++◌, ◌+◌, ◌<◌, ℕ, List, ◌∷◌, length, get_or, drop, Some, refl, sym, ap, subst, ◌∙◌}
use Rattle.std.proofs.lemmas.List.{drop_more}
use Rattle.qs_explain.specs.declared.explanation.Explanation.{Explanation}
use Rattle.qs_c.specs.Explained.{AreLines, IsLine}

-- what is left of a list, from its first
split_at : (xs : List Explanation) (i : ℕ) (x : Explanation) → i < length xs → x ≡ get_or xs i x → drop i xs ≡ x ∷ drop (i + 1) xs
split_at xs i x here is = drop_more xs i x here ∙ ap (λ (y : Explanation). y ∷ drop (i + 1) xs) (sym is)

-- the line of one more explanation
pub one_more : (xs : List Explanation) (i : ℕ) (x : Explanation) (line rest : List ℕ) (len : ℕ) → i < length xs → x ≡ get_or xs i x → IsLine (Some x) line len
    → AreLines (drop (i + 1) xs) rest → AreLines (drop i xs) (line ++ 10 ∷ rest)
one_more xs i x line rest len here is is_line lines = subst (λ ys. AreLines ys (line ++ 10 ∷ rest)) (sym (split_at xs i x here is)) (line, len, rest, is_line, lines, refl)
