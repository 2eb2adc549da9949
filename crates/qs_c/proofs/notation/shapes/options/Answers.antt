use Rattle.std.proofs.Common.{◌≡◌, ◌+◌, ◌-◌, ap, sym, ◌∙◌, true, arith, rules}
use Rattle.qs_spec.specs.Shape as s
use Rattle.qs_data.specs.declared.shape.shape.Shape as r
use Rattle.qs_data.specs.shape.Views.{shape_of}
use Rattle.qs_c.specs.Notation as n
use Rattle.qs_c.proofs.Listing.{options-more}
use Rattle.qs_c.proofs.notation.shapes.options.Goals as goal

pub loop-at-preserved : goal.loop-at-preserved
loop-at-preserved c =
    let l = c.loop-at in
    let t = l.cursor.rest.now in
    let seen : shape_of (r.Option c.in_ok-new.field-0) ≡ s.Shape.option (shape_of c.in_ok-new.field-0.value) = search (rules, r.the_lemmas) in
    let held : c.in_ok-new.field-0.value ≡ l.shape = grind arith in
    let comes : n.comes 63 t ≡ true = grind arith in
    let rest : c.take.new.self.rest.now ≡ n.after_sign t = grind arith in
    l.invariant ∙ options-more (c.args.most - l.at) (c.args.most - (l.at + 1)) (shape_of l.shape) t (omega arith) comes
    ∙ ap (λ x. n.options (c.args.most - (l.at + 1)) x (n.after_sign t)) (sym (seen ∙ ap (λ x. s.Shape.option (shape_of x)) held))
    ∙ ap (n.options (c.args.most - (l.at + 1)) (shape_of (r.Option c.in_ok-new.field-0))) (sym rest)
