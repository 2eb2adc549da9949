-- What `decoded` is up to a `%`.
use Rattle.qs_tree.proofs.Common.{◌≡◌, ℕ, zero, suc, ◌≤◌, false, ◌||◌, ◌==◌, List, [], ◌∷◌, ◌++◌, map, length, take, drop, refl, ap, ◌∙◌, arith, cond-false, or_both, decoded, is_escape, has_escape, unplus, NoneBetween, swapped}

-- any other byte is one
decoded_plain : (b : ℕ) (bs : List ℕ) → (b == 37) ≡ false → decoded (b ∷ bs) ≡ unplus b ∷ decoded bs
decoded_plain b [] other = refl
decoded_plain b (c ∷ []) other = cond-false _ _ _ other
decoded_plain b (c ∷ e ∷ bs) other = cond-false _ _ _ other

-- bytes up to a `%`
pub decoded_run : (n : ℕ) (bs : List ℕ) → n ≤ length bs → NoneBetween (λ b. b == 37) bs 0 n
    → decoded bs ≡ map (swapped 43 32) (take n bs) ++ decoded (drop n bs)
decoded_run zero bs within ignoring_escapes = refl
decoded_run (suc n) [] within ignoring_escapes = absurd (omega arith)
decoded_run (suc n) (b ∷ bs) within ignoring_escapes =
    decoded_plain b bs (ignoring_escapes 0 (omega arith) (omega arith))
    ∙ ap (λ x. unplus b ∷ x) (decoded_run n bs (omega arith) (λ k from to. ignoring_escapes (suc k) (omega arith) (omega arith)))

-- bytes up to a `+` or `%`
pub decoded_front : (n : ℕ) (bs : List ℕ) → n ≤ length bs → NoneBetween is_escape bs 0 n → decoded bs ≡ take n bs ++ decoded (drop n bs)
decoded_front zero bs within ignoring_escapes = refl
decoded_front (suc n) [] within ignoring_escapes = absurd (omega arith)
decoded_front (suc n) (b ∷ bs) within ignoring_escapes =
    let first = or_both (b == 43) (b == 37) (ignoring_escapes 0 (omega arith) (omega arith)) in
    decoded_plain b bs first.1 ∙ ap (λ x. x ∷ decoded bs) (cond-false _ _ _ first.0)
    ∙ ap (λ x. b ∷ x) (decoded_front n bs (omega arith) (λ k from to. ignoring_escapes (suc k) (omega arith) (omega arith)))

pub decoded_without_escape : (bs : List ℕ) → has_escape bs ≡ false → decoded bs ≡ bs
decoded_without_escape [] ignoring_escapes = refl
decoded_without_escape (b ∷ bs) ignoring_escapes =
    let none = or_both (b == 43 || b == 37) (has_escape bs) ignoring_escapes in
    let first = or_both (b == 43) (b == 37) none.0 in
    decoded_plain b bs first.1 ∙ ap (λ x. x ∷ decoded bs) (cond-false _ _ _ first.0) ∙ ap (λ x. b ∷ x) (decoded_without_escape bs none.1)
