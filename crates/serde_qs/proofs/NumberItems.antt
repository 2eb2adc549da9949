-- What std reads as a number is what the definitions read.
use Rattle.std.proofs.Common.{◌≡◌, ℕ, ◌-◌, ◌^◌, ◌<◌, ◌≤◌, ◌⊎◌, inl, inr, List, Some, None, ℤ, pos, negsuc, neg_ℤ, ◌≤ℤ◌, ◌<ℤ◌, refl, sym, ap, ◌∙◌, subst, arith, pow_pos, to_z, of_z}
use Rattle.std.specs.Str.Parse.{IsNumeral, digits_value, signed_digits_value, without_leading_plus, without_leading_sign}
use Rattle.std.specs.Int.RustNames.{FitsSigned}
use Rattle.std.proofs.lemmas.Int.{ints, to_z-of_z}
use Rattle.std.proofs.lemmas.Bool.{cases_Bool, false≢true}
use Rattle.std.specs.Int.{Width}
use mir.Val.{hbits}
use Rattle.qs_spec.specs.Scalar.{is_numeral, unsigned_number, signed_number}
use Rattle.qs_data.proofs.lemmas.read.Numbers.{numeral_holds, numeral_is, numeral_past, unsigned_is, unsigned_ok, signed_ok, signed_past, signed_err}

-- an unsigned number of these bits
abbrev pub IsUnsigned : ℕ → List ℕ → Type 0
IsUnsigned bits bs = IsNumeral 10 (without_leading_plus bs) × (digits_value 10 (without_leading_plus bs) < 2 ^ bits)

pub unsigned_read : (bits : ℕ) (bs : List ℕ) (n : ℕ) → IsUnsigned bits bs × (n ≡ digits_value 10 (without_leading_plus bs)) → unsigned_number bits bs ≡ Some n
unsigned_read bits bs n h = unsigned_ok bits bs n h.0.0 h.1 (omega (arith, h.0.1, h.1))

pub unsigned_unread : (bits : ℕ) (bs : List ℕ) → ¬ (IsUnsigned bits bs) → unsigned_number bits bs ≡ None
unsigned_unread bits bs h = elim (cases_Bool (is_numeral (without_leading_plus bs))) [
  | inl is ↦
      let held = numeral_holds (without_leading_plus bs) is in
      let large : digits_value 10 (without_leading_plus bs) < 2 ^ bits → ⊥ = λ lt. h (held, lt) in
      unsigned_is bits bs ∙ numeral_past (2 ^ bits - 1) (without_leading_plus bs) held (omega (arith, large, pow_pos bits))
  | inr not ↦ unsigned_is bits bs ∙ rw not
]

-- a signed number of this width
abbrev pub IsSigned : Width → List ℕ → Type 0
IsSigned w bs = IsNumeral 10 (without_leading_sign bs) × FitsSigned w (signed_digits_value 10 bs)

within : (w : Width) (k : ℕ) (z : ℤ) → 2 ^ hbits w ≡ k → FitsSigned w z → (neg_ℤ (pos k) ≤ℤ z) × (z ≤ℤ pos (k - 1))
within w k (pos n) e f = let l : n < k = omega (arith, f.sfits, e) in (omega (arith, ints), omega (arith, ints))
within w k (negsuc n) e f = let l : n < k = omega (arith, f.sfits, e) in (omega (arith, ints), omega (arith, ints))

outside : (w : Width) (k : ℕ) (z : ℤ) → 2 ^ hbits w ≡ k → (FitsSigned w z → ⊥) → (z <ℤ neg_ℤ (pos k)) ⊎ (pos (k - 1) <ℤ z)
outside w k (pos n) e h = let l : n < k → ⊥ = λ lt. h (record { sfits = omega (arith, lt, e) }) in inr (omega (arith, ints, l, e, pow_pos (hbits w)))
outside w k (negsuc n) e h = let l : n < k → ⊥ = λ lt. h (record { sfits = omega (arith, lt, e) }) in inl (omega (arith, ints, l, e, pow_pos (hbits w)))

pub signed_read : (w : Width) (bits : ℕ) (bs : List ℕ) (z : ℤ) → 2 ^ hbits w ≡ 2 ^ (bits - 1) → IsSigned w bs × (z ≡ signed_digits_value 10 bs) → signed_number bits bs ≡ Some (to_z w (of_z w z))
signed_read w bits bs z e h =
    let f : FitsSigned w z = subst (FitsSigned w) (sym h.1) h.0.1 in
    let k = within w (2 ^ (bits - 1)) z e f in
    signed_ok bits bs z h.0.0 h.1 k.0 k.1 ∙ ap Some (sym (to_z-of_z w z f))

pub signed_unread : (w : Width) (bits : ℕ) (bs : List ℕ) → 2 ^ hbits w ≡ 2 ^ (bits - 1) → 2 ^ (bits - 1) ≤ 2 ^ 63 → ¬ (IsSigned w bs) → signed_number bits bs ≡ None
signed_unread w bits bs e le h = elim (cases_Bool (is_numeral (without_leading_sign bs))) [
  | inl is ↦
      let held = numeral_holds (without_leading_sign bs) is in
      signed_past bits bs (signed_digits_value 10 bs) held refl (outside w (2 ^ (bits - 1)) (signed_digits_value 10 bs) e (λ f. h (held, f)))
  | inr not ↦ signed_err bits bs (λ p. false≢true (sym not ∙ numeral_is (without_leading_sign bs) p.0)) le
]
