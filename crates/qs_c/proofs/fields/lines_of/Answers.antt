use Rattle.std.proofs.Common.{◌≡◌, ◌++◌, [], ◌∷◌, List, drop, arith, ap, refl, sym, subst, ◌∙◌, append_assoc, append-nil}
use Rattle.std.proofs.lemmas.Grind.{common_steps}
use Rattle.std.proofs.lemmas.List.{drop_all}
use Rattle.qs_explain.specs.declared.explanation.Explanation.{Explanation}
use Rattle.qs_c.specs.Explained.{AreLines}
use Rattle.qs_c.proofs.Lines.{one_more}
use Rattle.qs_c.proofs.fields.lines_of.Goals as goal

pub loop-explanation-preserved : goal.loop-explanation-preserved
loop-explanation-preserved c = λ rest lines.
    let xs = c.args.explanations.now in
    let i = c.loop-explanation.explanation-index in
    let line = c.in_ok-line.line in
    let so_far = c.loop-explanation.text.items in
    let added = one_more xs i c.explanation-item.result line.text.items rest line.path_len (omega arith) c.explanation-item.is c.in_ok-line.ensures lines in
    let whole : AreLines xs (so_far ++ (line.text.items ++ 10 ∷ rest)) = c.loop-explanation.invariant (line.text.items ++ 10 ∷ rest) added in
    let pushed : c.push.new.self.items ≡ (so_far ++ line.text.items) ++ 10 ∷ [] = grind (arith, common_steps) in
    let longer = sym (append_assoc so_far line.text.items (10 ∷ rest)) ∙ sym (append_assoc (so_far ++ line.text.items) (10 ∷ []) rest) ∙ ap (λ ys. ys ++ rest) (sym pushed) in
    subst (AreLines xs) longer whole

pub returns : goal.returns
returns c =
    let xs = c.args.explanations.now in
    let none : drop c.loop-explanation.explanation-index xs ≡ [] = drop_all c.loop-explanation.explanation-index xs (omega arith) in
    let end = subst (λ (ys : List Explanation). AreLines ys []) (sym none) refl in
    subst (AreLines xs) (append-nil c.loop-explanation.text.items) (c.loop-explanation.invariant [] end)
