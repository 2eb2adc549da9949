use Rattle.std.proofs.Common.{◌++◌, ap, sym, ◌∙◌, codes, subst, arith}
use Rattle.qs_data.specs.data.Views.{data_of, values_in}
use Rattle.qs_tool.specs.Shown.{shown, in_brackets, shown_values}
use Rattle.qs_tool.specs.internal.Pieces.{Begins}
use Rattle.qs_tool.proofs.Pieces.{text_of_more, begins_listed}
use Rattle.qs_tool.proofs.showing.begin_list.Goals as goal

pub returns-in_ok-push-in-Some-2-clause-ok : goal.returns-in_ok-push-in-Some-2-clause-ok
returns-in_ok-push-in-Some-2-clause-ok c =
    let first = shown (data_of c.in-Some.first.now) in
    let left = text_of_more _ _ _ c.in_ok-push-in-Some-2.ensures.items ∙ ap (λ l. first ++ l) (text_of_more _ _ _ c.in_ok-push-in-Some.ensures.items) in
    subst (λ xs. Begins (in_brackets (shown_values (values_in xs))) c.args.line.now.items c.args.stack.now.items c.push.new.self.items c.push-in-Some-2.new.self.items)
    (sym c.in-Some.ensures.cases.0)
    (begins_listed (codes "[") (codes "]") first (shown_values (values_in c.in-Some.rest.now)) c.args.line.now.items c.args.stack.now.items
    c.push.new.self.items c.push-in-Some-2.new.self.items (omega arith) c.in_ok-push.ensures.items left)
