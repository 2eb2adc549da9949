use Rattle.qs_data.proofs.Common.{◌≡◌, ◌-◌, ◌∷◌, ◌&&◌, ◌||◌, drop, map, string_bytes, list_any, bytes_eq, names_differ, not, arith, sym, ap, ap₂, ◌∙◌}
use Rattle.std.proofs.Math.Bool.{and_comm}
use Rattle.std.proofs.lemmas.List.{at_drop_more}
use Rattle.qs_data.proofs.lemmas.shape.Names.{any_turned}
use Rattle.qs_data.proofs.shape.distinct.many_names_differ.Goals as goal

pub loop-i-preserved : goal.loop-i-preserved
loop-i-preserved c =
    let before = c.loop-i.invariant in
    let name = c.as_bytes.result.now in
    let after = map string_bytes (drop c.loop-i.i c.args.names.now) in
    let all : map string_bytes (drop (c.loop-i.i - 1) c.args.names.now) ≡ name ∷ after =
    at_drop_more (map string_bytes) c.args.names.now (c.loop-i.i - 1) c.index-names-i.result (omega (arith, c.loop-i.auto.i, c.loop-i-test.true))
    ∙ ap₂ (λ x xs. x ∷ xs) (ap string_bytes (sym c.index-names-i.is) ∙ sym c.as_bytes.ensures.value) (ap (λ n. map string_bytes (drop n c.args.names.now)) (omega (arith, c.loop-i-test.true))) in
    let added = c.in_ok-differ.ensures in (
      ap₂ (λ a b. a && b) before.0 (added.added ∙ ap not (before.1 name ∙ any_turned name after)) ∙ and_comm (names_differ after) (not (list_any (bytes_eq name) after)) ∙ sym (ap names_differ all),
      λ t. added.set t ∙ ap (λ b. bytes_eq name t || b) (before.1 t) ∙ sym (ap (list_any (λ n. bytes_eq n t)) all),
    )
