use Rattle.qs_data.proofs.Common.{◌≡◌, ◌-◌, ◌^◌, ◌⊎◌, inl, inr, Some, ap, pos, neg_ℤ, ◌≤ℤ◌, ◌<ℤ◌, to_z, of_z, w64, sym, subst, ◌∙◌, arith, bits_of}
use Rattle.std.specs.Int.RustNames.{FitsSigned}
use Rattle.std.proofs.lemmas.Int.{ints, to_z-of_z}
use Rattle.qs_data.proofs.lemmas.read.Numbers.{signed_ok, signed_past}
use Rattle.qs_data.proofs.read.scalar.signed.Goals as goal
use Rattle.qs_data.proofs.read.scalar.signed.Goals.{else-signed_min-number-via-then-signed_min-number+else-number-signed_max, else-signed_min-number-via-else-signed_min-number}

pub returns-then-number-signed_max : goal.returns-then-number-signed_max
returns-then-number-signed_max c =
    let bits = bits_of c.args.width in
    let z = c.in-Ok.number in
    let h = c.in-Ok.ensures.value.0 in
    let fits : FitsSigned w64 z = subst (FitsSigned w64) (sym h.1) h.0.1 in
    let same : to_z w64 (of_z w64 z) ≡ z = to_z-of_z w64 z fits in
    let low : neg_ℤ (pos (2 ^ (bits - 1))) ≤ℤ z = grind (arith, ints) in
    let high : z ≤ℤ pos (2 ^ (bits - 1) - 1) = grind (arith, ints) in
    ap Some same ∙ sym (signed_ok bits c.args.text.now z h.0.0 h.1 low high)

pub returns-else-signed_min-number : goal.returns-else-signed_min-number
returns-else-signed_min-number c =
    let bits = bits_of c.args.width in
    let z = c.in-Ok.number in
    let h = c.in-Ok.ensures.value.0 in
    let fits : FitsSigned w64 z = subst (FitsSigned w64) (sym h.1) h.0.1 in
    let out : (z <ℤ neg_ℤ (pos (2 ^ (bits - 1)))) ⊎ (pos (2 ^ (bits - 1) - 1) <ℤ z) = elim c.else-signed_min-number.branch [
      | else-signed_min-number-via-then-signed_min-number+else-number-signed_max w ↦ inr (grind (arith, ints))
      | else-signed_min-number-via-else-signed_min-number w ↦ inl (grind (arith, ints))
    ] in
    sym (signed_past bits c.args.text.now z h.0.0 h.1 out)
