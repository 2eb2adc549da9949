-- The numbers and the characters of a program fit their shapes.
use Rattle.std.proofs.Common.{◌≡◌, ◌∙◌, ap, rules, sym, ℕ, ◌+◌, ◌-◌, ◌^◌, ◌<◌, ◌≤◌, ℤ, pos, negsuc, neg_ℤ, ◌≤ℤ◌, Bool, true, false, cond, ◌&&◌, ◌||◌, nat_le, nat_lt, refl, arith, lt-ltb, pow_mono, pow_pos}
use Rattle.std.proofs.lemmas.Int.{ints}
use Rattle.std.specs.Char.{IsScalar}
use Rattle.qs_spec.specs.Data as d
use Rattle.qs_spec.specs.Fits.{fits_signed, fits_unsigned, is_scalar}
use Rattle.qs_spec.specs.Shape.{Shape}
use Rattle.qs_data.specs.data.Views.{data_of}
use Rattle.qs_data.specs.declared.data.data.Data as r
use Rattle.qs_data.specs.declared.shape.width.Width.{Width}
use Rattle.qs_data.specs.declared.shape.width.Width.TheVariants.{Bits8, Bits16, Bits32, Bits64}
use Rattle.qs_data.specs.shape.Widths.{bits_of}
use Rattle.serde_qs.specs.Fitting.{fitting}
use Rattle.serde_qs.specs.internal.Booleans.{both_true}
use Rattle.serde_qs.specs.internal.Fitting.{itself}

few_bits : (w : Width) → bits_of w ≤ 64
few_bits Bits8 = omega arith
few_bits Bits16 = omega arith
few_bits Bits32 = omega arith
few_bits Bits64 = omega arith

pub below_64 : (bits n : ℕ) → bits ≤ 64 → n < 2 ^ bits → fits_unsigned bits n ≡ true
below_64 bits n le below =
    let few : 2 ^ bits ≤ 2 ^ 64 = pow_mono le in
    both_true (lt-ltb n (2 ^ bits) below) (lt-ltb n (2 ^ 64) (omega (arith, below, few)))

-- from -2 ^ (bits - 1) up to 2 ^ (bits - 1) - 1
abbrev IsBetween : ℕ → ℤ → Type 0
IsBetween bits z = (neg_ℤ (pos (2 ^ (bits - 1))) ≤ℤ z) × (z ≤ℤ pos (2 ^ (bits - 1) - 1))

between : (bits : ℕ) (z : ℤ) → bits ≤ 64 → IsBetween bits z → fits_signed bits z ≡ true
between bits (pos n) le bounds =
    let less : bits - 1 ≤ 63 = omega (arith, le) in
    let half : 2 ^ (bits - 1) ≤ 2 ^ 63 = pow_mono less in
    let below : n < 2 ^ (bits - 1) = omega (arith, ints, pow_pos (bits - 1), bounds.1) in
    both_true (lt-ltb n (2 ^ (bits - 1)) below) (lt-ltb n (2 ^ 64) (omega (arith, below, half)))
between bits (negsuc n) le bounds =
    let less : bits - 1 ≤ 63 = omega (arith, le) in
    let half : 2 ^ (bits - 1) ≤ 2 ^ 63 = pow_mono less in
    let below : n < 2 ^ (bits - 1) = omega (arith, ints, bounds.0) in
    both_true (lt-ltb n (2 ^ (bits - 1)) below) (lt-ltb (n + 1) (2 ^ 64) (omega (arith, below, half)))

either : (a b : Bool) → cond a true b ≡ true → (a || b) ≡ true
either true b h = refl
either false b h = h

pub unsigned_in_range : (w : Width) (n : ℕ) → n < 2 ^ bits_of w → fits_unsigned (bits_of w) n ≡ true
unsigned_in_range w n below = below_64 (bits_of w) n (few_bits w) below

pub signed_in_range : (w : Width) (z : ℤ) → IsBetween (bits_of w) z → fits_signed (bits_of w) z ≡ true
signed_in_range w z bounds = between (bits_of w) z (few_bits w) bounds

-- so their data are the numbers and the characters themselves

pub unsigned_fitting : (w : Width) (n : ℕ) → n < 2 ^ bits_of w → fitting (Shape.unsigned (bits_of w)) (d.unsigned n) ≡ d.unsigned n
unsigned_fitting w n below = itself (fits_unsigned (bits_of w) n) (d.unsigned n) (unsigned_in_range w n below)

pub signed_fitting : (w : Width) (z : ℤ) → IsBetween (bits_of w) z → fitting (Shape.signed (bits_of w)) (d.signed z) ≡ d.signed z
signed_fitting w z bounds = itself (fits_signed (bits_of w) z) (d.signed z) (signed_in_range w z bounds)

pub character_fitting : (c : ℕ) → IsScalar c → fitting Shape.character (d.character c) ≡ d.character c
character_fitting c h = itself (is_scalar c) (d.character c) (either (nat_lt c 55296) (nat_le 57344 c && nat_lt c 1114112) h)

-- and so they are made

pub unsigned_made : (w : Width) (n : ℕ) → n < 2 ^ bits_of w → data_of (r.Unsigned n) ≡ fitting (Shape.unsigned (bits_of w)) (d.unsigned n)
unsigned_made w n below =
    let level : data_of (r.Unsigned n) ≡ d.unsigned n = search (rules, r.the_lemmas) in
    level ∙ sym (unsigned_fitting w n below)

pub signed_made : (w : Width) (y z : ℤ) → y ≡ z → IsBetween (bits_of w) z → data_of (r.Signed y) ≡ fitting (Shape.signed (bits_of w)) (d.signed z)
signed_made w y z same bounds =
    let level : data_of (r.Signed y) ≡ d.signed y = search (rules, r.the_lemmas) in
    level ∙ ap d.signed same ∙ sym (signed_fitting w z bounds)

pub character_made : (c : ℕ) → IsScalar c → data_of (r.Char c) ≡ fitting Shape.character (d.character c)
character_made c h =
    let level : data_of (r.Char c) ≡ d.character c = search (rules, r.the_lemmas) in
    level ∙ sym (character_fitting c h)
