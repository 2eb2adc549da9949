-- Bytes that are compared as numbers.
use Rattle.qs_tree.proofs.Common.{◌≡◌, ℕ, zero, suc, ◌+◌, ◌*◌, ◌<◌, ◌≤◌, List, ◌∷◌, length, take, drop, slice_index, true, false, true≢false, Less, Equal, Greater, Ordering, refl, sym, ◌∙◌, subst, arith, nat_cmp, is_ne, ordering_then, MatchOrdering, ranks, nat_cmp_is, slice_cmp}
use Rattle.std.specs.Slice.Scan.{big_endian}
use mir.Syntax.{w8}
use mir.Val.{Fits}

abbrev pub AreBytes : List ℕ → Type 0
AreBytes xs = (k : ℕ) → Fits w8 (slice_index xs k)

rises : (n a b : ℕ) (us vs : List ℕ) → n ≤ length us → n ≤ length vs → AreBytes us → a < b → big_endian a (take n us) < big_endian b (take n vs)
rises zero a b us vs p q small l = l
rises (suc n) a b (u ∷ us) (v ∷ vs) p q small l =
    let fits : u < 256 = (small 0).fits in
    rises n (a * 256 + u) (b * 256 + v) us vs (omega arith) (omega arith) (λ k. small (suc k)) (omega arith)
rises n a b us vs p q small l = absurd (omega arith)

-- the first n bytes compare as the numbers that they write after a, and where those are equal, what follows does
pub as_numbers : (n a : ℕ) (us vs : List ℕ) → n ≤ length us → n ≤ length vs → AreBytes us → AreBytes vs
    → slice_cmp nat_cmp us vs ≡ ordering_then (nat_cmp (big_endian a (take n us)) (big_endian a (take n vs))) (slice_cmp nat_cmp (drop n us) (drop n vs))
as_numbers zero a us vs p q small less = rw (← nat_cmp_is a a Equal refl) refl
as_numbers (suc n) a (u ∷ us) (v ∷ vs) p q small less =
    by (as_numbers n (a * 256 + u) us vs (omega arith) (omega arith) (λ k. small (suc k)) (λ k. less (suc k))) (nat_cmp u v) refl (ranks u v)
  where
    numbers : ℕ → ℕ → Ordering
    numbers x y = nat_cmp (big_endian (a * 256 + x) (take n us)) (big_endian (a * 256 + y) (take n vs))

    by : slice_cmp nat_cmp us vs ≡ ordering_then (numbers u u) (slice_cmp nat_cmp (drop n us) (drop n vs)) → (r : Ordering) → nat_cmp u v ≡ r → MatchOrdering r (u < v) (u ≡ v) (v < u)
        → ordering_then (nat_cmp u v) (slice_cmp nat_cmp us vs) ≡ ordering_then (numbers u v) (slice_cmp nat_cmp (drop n us) (drop n vs))
    by rest Less e l =
        let under : u < v = l in
        let more = rises n (a * 256 + u) (a * 256 + v) us vs (omega arith) (omega arith) (λ k. small (suc k)) (omega arith) in
        rw (e, ← nat_cmp_is _ _ Less more) refl
    by rest Greater e l =
        let over : v < u = l in
        let more = rises n (a * 256 + v) (a * 256 + u) vs us (omega arith) (omega arith) (λ k. less (suc k)) (omega arith) in
        rw (e, ← nat_cmp_is _ _ Greater more) refl
    by rest Equal e l =
        let same : u ≡ v = l in
        rw e (subst (λ y. slice_cmp nat_cmp us vs ≡ ordering_then (numbers u y) (slice_cmp nat_cmp (drop n us) (drop n vs))) same rest)
as_numbers n a us vs p q small less = absurd (omega arith)

-- an order that isn't equality decides
decided : (r o : Ordering) → is_ne r ≡ true → ordering_then r o ≡ r
decided Equal o h = absurd (true≢false (sym h))
decided r o h = refl

undecided : (r o : Ordering) → is_ne r ≡ false → ordering_then r o ≡ o
undecided Equal o h = refl
undecided r o h = absurd (true≢false h)

-- the first eight of some bytes, as they are read one by one
pub eight_bytes : (xs : List ℕ) → 8 ≤ length xs
    → slice_index xs 0 * 72057594037927936 + slice_index xs 1 * 281474976710656 + slice_index xs 2 * 1099511627776 + slice_index xs 3 * 4294967296
    + slice_index xs 4 * 16777216 + slice_index xs 5 * 65536 + slice_index xs 6 * 256 + slice_index xs 7 ≡ big_endian 0 (take 8 xs)
eight_bytes (a ∷ b ∷ c ∷ d ∷ e ∷ f ∷ g ∷ i ∷ xs) h = omega arith
eight_bytes xs h = absurd (omega arith)

-- what is found first, or else later
module _ (found later all : Ordering) (is : all ≡ ordering_then found later) where
  pub found_first : is_ne found ≡ true → found ≡ all
  found_first ne = sym (is ∙ decided found later ne)

  pub found_later : is_ne found ≡ false → later ≡ all
  found_later eq = sym (is ∙ undecided found later eq)
