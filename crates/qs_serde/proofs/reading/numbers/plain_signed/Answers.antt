use Rattle.std.proofs.Common.{◌≡◌, ◌-◌, ◌^◌, Some, sym, ap, subst, ◌∙◌, arith}
use Rattle.std.specs.Prelude.{pos}
use Rattle.std.specs.Int.RustNames.{FitsSigned}
use Rattle.std.proofs.lemmas.Int.{ints, to_z-of_z}
use Rattle.qs_data.proofs.Common.{neg_ℤ, ◌≤ℤ◌, to_z, of_z, w64}
use Rattle.qs_data.proofs.lemmas.read.Numbers.{signed_ok}
use Rattle.qs_spec.specs.Data as d
use Rattle.qs_serde.specs.Nodes.{node_tree}
use Rattle.qs_serde.proofs.Borrowed.{signed_read}
use Rattle.qs_serde.proofs.reading.numbers.plain_signed.Goals as goal

pub returns-in-Ok : goal.returns-in-Ok
returns-in-Ok c reject_duplicates =
    let b = c.in_ok-plain_text.field-0.now in
    let z = c.in-Ok.number in
    let h = c.in-Ok.ensures.value.0 in
    let fits : FitsSigned w64 z = subst (FitsSigned w64) (sym h.1) h.0.1 in
    let same : to_z w64 (of_z w64 z) ≡ z = to_z-of_z w64 z fits in
    let low : neg_ℤ (pos (2 ^ (64 - 1))) ≤ℤ z = grind (arith, ints) in
    let high : z ≤ℤ pos (2 ^ (64 - 1) - 1) = grind (arith, ints) in
    signed_read reject_duplicates (node_tree c.args.node) b z (c.in_ok-plain_text.ensures.given reject_duplicates) (signed_ok 64 b z h.0.0 h.1 low high)
    ∙ ap (λ m. Some (d.signed m)) (sym same)
