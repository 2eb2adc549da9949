-- What query mode doesn't write as itself is a space, or written by an escape.
use Rattle.qs_tree.proofs.Common.{◌≡◌, ℕ, ◌+◌, Bool, true, false, not, ◌||◌, ◌==◌, cond, List, [], ◌∷◌, map, refl, ap, arith, mask_l, is_kept_in_query, is_encoded, is_escaped, eqb-true}

one_bit : (space kept : Bool) → (space ≡ true → kept ≡ false) → cond space 1 0 + cond (not (kept || space)) 1 0 ≡ cond (not kept) 1 0
one_bit true true apart = let is = apart refl in absurd (cc)
one_bit true false apart = refl
one_bit false true apart = refl
one_bit false false apart = refl

pub mask_with_spaces : (v : List ℕ) → mask_l (map (λ b. b == 32) v) + mask_l (map (is_escaped false) v) ≡ mask_l (map (is_encoded false) v)
mask_with_spaces [] = refl
mask_with_spaces (b ∷ v) =
    omega (arith, mask_with_spaces v, one_bit (b == 32) (is_kept_in_query b) (λ space. ap is_kept_in_query (eqb-true b 32 space)))
