-- From the lanes of one load to the mask of a class of bytes.
use Rattle.qs_tree.proofs.Common.{◌≡◌, ℕ, ◌+◌, ◌%◌, ◌^◌, ◌≤◌, Bool, true, List, [], ◌∷◌, map, length, get_or, replicate, Fits, w8, refl, ap, ◌∙◌, arith, agree_below, agree_below_at, map-map, mask_l-mod, length-chunk, chunk-fits, zip2_of_maps, splat_is_map, length-map, Each1, chunk, zip2, mask_l, top, class_mask}

-- an operation with a splat on a vector that was computed lane by lane from v
pub after_splat : (h : ℕ → ℕ → ℕ) (f : ℕ → ℕ) (v : List ℕ) (n y : ℕ) → length v ≡ n → {a : List ℕ} → a ≡ map f v → zip2 h a (replicate n y) ≡ map (λ x. h (f x) y) v
after_splat h f v n y long is = zip2_of_maps h f (λ _. y) v is (splat_is_map v n y long)

-- the same with the splat first, as `simd_gt` and `simd_ge` compare
pub before_splat : (h : ℕ → ℕ → ℕ) (f : ℕ → ℕ) (v : List ℕ) (n y : ℕ) → length v ≡ n → {a : List ℕ} → a ≡ map f v → zip2 h (replicate n y) a ≡ map (λ x. h y (f x)) v
before_splat h f v n y long is = zip2_of_maps h (λ _. y) f v (splat_is_map v n y long) is

agree_at_each : (p q : ℕ → Bool) → agree_below p q 256 ≡ true → (xs : List ℕ) → Each1 (Fits w8) xs → map p xs ≡ map q xs
agree_at_each p q all [] fits = refl
agree_at_each p q all (x ∷ xs) fits =
    ap (λ b. b ∷ map p xs) (agree_below_at p q 256 x all fits.0.fits) ∙ ap (λ bs. q x ∷ bs) (agree_at_each p q all xs fits.1)

-- a lane is set just where the byte is of the class
pub mask_is : (q : ℕ → Bool) (d : List ℕ) (i n : ℕ) → i + n ≤ length d → n ≤ 64 → ((k : ℕ) → Fits w8 (get_or d k 0))
    → (f : ℕ → ℕ) {z : List ℕ} → z ≡ map f (chunk i n d) → agree_below (λ x. top 7 (f x)) q 256 ≡ true
    → mask_l (map (top 7) z) % 2 ^ 64 ≡ class_mask q d i n
mask_is q d i n room few fits f lanes all =
    let v = chunk i n d in
    let same = agree_at_each (λ x. top 7 (f x)) q all v (chunk-fits w8 i n d fits) in
    ap (λ l. mask_l l % 2 ^ 64) (ap (map (top 7)) lanes ∙ map-map (top 7) f v ∙ same)
    ∙ mask_l-mod (map q v) 64 (omega (arith, length-map v q, length-chunk i n d room))
