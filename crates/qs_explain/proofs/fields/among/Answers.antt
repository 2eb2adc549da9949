use Rattle.std.proofs.Common.{◌≡◌, ◌++◌, ◌+◌, [], ◌∷◌, drop, List, arith, ap, sym, subst, ◌∙◌, append_assoc, append-nil}
use Rattle.std.proofs.lemmas.List.{drop_all}
use Rattle.qs_spec.specs.Config.{are_rejected}
use Rattle.qs_spec.specs.Shape as s
use Rattle.qs_data.specs.declared.shape.shape.Field.{Field}
use Rattle.qs_data.specs.read.Keys.{entries_view}
use Rattle.qs_data.specs.shape.Views.{fields_in}
use Rattle.qs_explain.specs.Fields.{OfFields}
use Rattle.std.proofs.lemmas.Grind.{common_steps}
use Rattle.qs_explain.specs.declared.explanation.Explanation.TheVariants as e
use Rattle.qs_explain.proofs.Faults.{next_field, with_fault}
use Rattle.qs_explain.proofs.fields.among.Goals.{in-Some+in_ok-push, in_default}
use Rattle.qs_explain.proofs.fields.among.Goals as goal

pub loop-field-preserved : goal.loop-field-preserved
loop-field-preserved c = λ u n xs keys rest.
    let rd = are_rejected c.args.config.duplicates in
    let es = entries_view c.args.entries in
    let ds = c.deref-field-items.result.now in
    let all = fields_in c.args.fields.now.items in
    let same : fields_in ds ≡ all = ap fields_in c.deref-field-items.ensures.value in
    let i = c.loop-field.field-index in
    let fault = c.in_ok-mismatch.field-0 in
    let so_far = c.loop-field.all.items in
    let later : OfFields rd (s.Shape.struct u (fields_in ds)) n es (fields_in (drop (i + 1) ds)) xs = subst (λ fs. OfFields rd (s.Shape.struct u fs) n es (fields_in (drop (i + 1) ds)) xs) (sym same) rest in
    let turn = next_field rd u ds i c.field-item.result n es fault xs (omega arith) c.field-item.is keys c.in_ok-mismatch.ensures later in
    let here = subst (λ fs. OfFields rd (s.Shape.struct u fs) n es (fields_in (drop i ds)) (with_fault fault xs)) same turn in
    let whole : OfFields rd (s.Shape.struct u all) n es all (so_far ++ with_fault fault xs) = c.loop-field.invariant u n (with_fault fault xs) keys here in
    elim c.match-branch-2.branch [
      | in-Some+in_ok-push w ↦
          let one = e.Mismatch w.in-Some.mismatch ∷ [] in
          let pushed : c.match-branch-2.all.items ≡ so_far ++ one = grind (arith, common_steps) in
          let longer = ap (λ f. so_far ++ with_fault f xs) w.in-Some.is ∙ sym (append_assoc so_far one xs) ∙ ap (λ ys. ys ++ xs) (sym pushed) in
          subst (OfFields rd (s.Shape.struct u all) n es all) longer whole
      | in_default w ↦ subst (OfFields rd (s.Shape.struct u all) n es all) (grind arith) whole
    ]

pub returns : goal.returns
returns c = λ u n keys.
    let rd = are_rejected c.args.config.duplicates in
    let es = entries_view c.args.entries in
    let ds = c.deref-field-items.result.now in
    let all = fields_in c.args.fields.now.items in
    let i = c.loop-field.field-index in
    let none : drop i ds ≡ [] = drop_all i ds (omega arith) in
    let rest = subst (λ (ys : List Field). OfFields rd (s.Shape.struct u all) n es (fields_in ys) []) (sym none) OfFields.no_more in
    subst (OfFields rd (s.Shape.struct u all) n es all) (append-nil c.loop-field.all.items) (c.loop-field.invariant u n [] keys rest)
