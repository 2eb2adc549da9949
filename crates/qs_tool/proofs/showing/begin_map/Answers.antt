use Rattle.std.proofs.Common.{◌++◌, ap, sym, ◌∙◌, codes, subst, arith, append_assoc}
use Rattle.qs_data.specs.data.Views.{data_of, pairs_in}
use Rattle.qs_tool.specs.Shown.{shown, in_braces, shown_pairs}
use Rattle.qs_tool.specs.internal.Pieces.{Begins}
use Rattle.qs_tool.proofs.Pieces.{text_of_more, begins_listed}
use Rattle.qs_tool.proofs.showing.begin_map.Goals as goal

pub returns-in_ok-push-in-Some-3-clause-ok : goal.returns-in_ok-push-in-Some-3-clause-ok
returns-in_ok-push-in-Some-3-clause-ok c =
    let pair = c.in-Some.pair.now in
    let key = shown (data_of pair.0) in
    let value = codes ":" ++ shown (data_of pair.1) in
    let left = text_of_more _ _ _ c.in_ok-push-in-Some-3.ensures.items ∙ ap (λ l. key ++ l) (text_of_more _ _ _ c.in_ok-push-in-Some-2.ensures.items)
    ∙ sym (append_assoc key value _) ∙ ap (λ l. (key ++ value) ++ l) (text_of_more _ _ _ c.in_ok-push-in-Some.ensures.items) in
    subst (λ ps. Begins (in_braces (shown_pairs (pairs_in ps))) c.args.line.now.items c.args.stack.now.items c.push.new.self.items c.push-in-Some-3.new.self.items)
    (sym c.in-Some.ensures.cases.0)
    (begins_listed (codes "{") (codes "}") (key ++ value) (shown_pairs (pairs_in c.in-Some.rest.now)) c.args.line.now.items c.args.stack.now.items
    c.push.new.self.items c.push-in-Some-3.new.self.items (omega arith) c.in_ok-push.ensures.items left)
