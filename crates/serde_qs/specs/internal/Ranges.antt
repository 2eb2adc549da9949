-- Numbers that fit their shapes are in the range of their types.
use Rattle.std.proofs.Common.{arith}
use Rattle.std.proofs.lemmas.Bool.{le-leb, ltb-true}
use Rattle.std.proofs.lemmas.Int.{ints}
use Rattle.std.specs.Prelude.{◌≡◌, ℕ, ◌+◌, ◌-◌, ◌^◌, ◌<◌, ℤ, pos, negsuc, neg_ℤ, int_le, ◌≤ℤ◌, Bool, true, false, nat_le, nat_lt, refl}
use lib.Dec.{T}
use Rattle.qs_spec.specs.Fits.{fits_signed, fits_unsigned}
use Rattle.serde_qs.specs.Meaning.{is_signed}
use Rattle.serde_qs.specs.internal.Booleans.{both_hold, both_true}

pub unsigned_below : (bits n : ℕ) → fits_unsigned bits n ≡ true → n < 2 ^ bits
unsigned_below bits n h = ltb-true n (2 ^ bits) (both_hold (nat_lt n (2 ^ bits)) (nat_lt n (2 ^ 64)) h).0

pub unsigned_within : (bits n : ℕ) → fits_unsigned bits n ≡ true → nat_le n (2 ^ bits - 1) ≡ true
unsigned_within bits n h = let below = unsigned_below bits n h in le-leb n (2 ^ bits - 1) (omega (arith, below))

pub signed_bounds : (bits : ℕ) (z : ℤ) → fits_signed bits z ≡ true → (neg_ℤ (pos (2 ^ (bits - 1))) ≤ℤ z) × (z ≤ℤ pos (2 ^ (bits - 1) - 1))
signed_bounds bits (pos n) h =
    let below : n < 2 ^ (bits - 1) = ltb-true n (2 ^ (bits - 1)) (both_hold (nat_lt n (2 ^ (bits - 1))) (nat_lt n (2 ^ 64)) h).0 in
    (omega (arith, ints), omega (arith, ints, below))
signed_bounds bits (negsuc n) h =
    let below : n < 2 ^ (bits - 1) = ltb-true n (2 ^ (bits - 1)) (both_hold (nat_lt n (2 ^ (bits - 1))) (nat_lt (n + 1) (2 ^ 64)) h).0 in
    (omega (arith, ints, below), omega (arith, ints, below))

holds : (b : Bool) → T b → b ≡ true
holds true t = refl
holds false t = absurd t

pub signed_within : (bits : ℕ) (z : ℤ) → fits_signed bits z ≡ true → is_signed bits z ≡ true
signed_within bits z h =
    let bounds = signed_bounds bits z h in
    both_true (holds (int_le (neg_ℤ (pos (2 ^ (bits - 1)))) z) bounds.0.le) (holds (int_le z (pos (2 ^ (bits - 1) - 1))) bounds.1.le)
