-- Bytes that were copied with one byte in place of another.
use Rattle.qs_tree.proofs.Common.{◌≡◌, ℕ, ◌+◌, ◌≤◌, Bool, List, [], ◌∷◌, ◌++◌, ◌==◌, cond, map, length, take, replicate, w8, refl, sym, ap, ◌∙◌, arith, take-append-add, length-map, length-take-le, take-take, take-map, tops_compared, zip2_splat, take_more_put_chunk, put_chunk, sel_l, top, zip2, swapped}

chosen : (p : ℕ → Bool) (y : ℕ) (v : List ℕ) → sel_l (map p v) (replicate (length v) y) v ≡ map (λ x. cond (p x) y x) v
chosen p y [] = refl
chosen p y (x ∷ v) = ap (λ l. cond (p x) y x ∷ l) (chosen p y v)

pub swapped_lanes : (from to : ℕ) (v : List ℕ) (n : ℕ) → length v ≡ n
    → sel_l (map (top 7) (zip2 (λ a b. cond (a == b) 255 0) v (replicate n from))) (replicate n to) v ≡ map (swapped from to) v
swapped_lanes from to v n long =
    let tests = tops_compared w8 (λ a b. a == b) v (replicate n from) ∙ zip2_splat (λ a b. a == b) v n from long in
    ap (λ ms. sel_l ms (replicate n to) v) tests ∙ ap (λ k. sel_l (map (λ x. x == from) v) (replicate k to) v) (sym long) ∙ chosen (λ x. x == from) to v

-- of n bytes that were stored, the first r
pub stored_front : (f : ℕ → ℕ) (bytes room v : List ℕ) (at n r : ℕ) → v ≡ map f (take n bytes) → n ≤ length bytes → at + n ≤ length room → r ≤ n
    → take (at + r) (put_chunk at room v) ≡ take at room ++ map f (take r bytes)
stored_front f bytes room v at n r is within fits few =
    let long : length v ≡ n = ap length is ∙ length-map (take n bytes) f ∙ length-take-le n bytes within in
    let stored = take_more_put_chunk at room v (at + n) (omega (arith, long)) fits in
    let front = length-take-le at room (omega arith) in
    sym (take-take (at + r) (at + n) (put_chunk at room v) (omega arith)) ∙ ap (take (at + r)) stored ∙ ap (λ j. take (j + r) (take at room ++ v)) (sym front)
    ∙ take-append-add (take at room) v r ∙ ap (λ x. take at room ++ x) (ap (take r) is ∙ take-map f r (take n bytes) ∙ ap (map f) (take-take r n bytes few))
