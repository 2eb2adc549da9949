use Rattle.std.proofs.Common.{◌≡◌, ◌∙◌, List, ℕ, Option, None, Some, ap, subst}
use Rattle.std.specs.Option.{IfSome}
use Rattle.qs_tool.specs.Line.{IsAnswer, without_newline}
use Rattle.qs_tool.proofs.answer.respond.Goals as goal

-- what holds of the bytes that were read holds of the input, where it is known
lifted : (a : Option (List ℕ)) (items : List ℕ) (P : List ℕ → Type 0) → IfSome a (λ input. items ≡ input) → P items → IfSome a P
lifted None items P e p = tt
lifted (Some input) items P e p = subst P e p

pub returns-clause-answer : goal.returns-clause-answer
returns-clause-answer g c =
    let answer = c.in_ok-answer_to.field-0 in
    let input = c.in_ok-bytes.bytes.items in
    let text = c.before_newline.ensures ∙ ap without_newline c.as_slice.ensures.value in
    let P : List ℕ → Type 0 = λ input. IsAnswer c.args.request (without_newline input) answer.line.items answer.status in
    let R : List ℕ → Type 0 = λ t. IsAnswer c.args.request t answer.line.items answer.status in
    lifted (g.R.Read.remaining c.args.input.now.reader) input P c.in_ok-bytes.ensures.all (subst R text c.in_ok-answer_to.ensures)
