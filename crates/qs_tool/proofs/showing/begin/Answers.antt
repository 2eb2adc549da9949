use Rattle.std.proofs.Common.{ap, sym, subst, ◌∙◌}
use Rattle.std.specs.Prelude.{OnOk}
use Rattle.qs_data.specs.data.Views.{data_of, pairs_in}
use Rattle.qs_tool.specs.Shown.{shown, shown_pairs, in_braces}
use Rattle.qs_tool.specs.internal.Pieces.{Begins}
use Rattle.qs_data.proofs.lemmas.data.Levels.{data_of_map}
use Rattle.qs_tool.proofs.showing.begin.Goals as goal

pub returns-in-Map-clause-ok : goal.returns-in-Map-clause-ok
returns-in-Map-clause-ok c =
    let is = ap (λ ps. in_braces (shown_pairs (pairs_in ps))) c.deref-in-Map.ensures.value ∙ sym (ap (λ x. shown (data_of x)) c.in-Map.is ∙ ap shown (data_of_map c.in-Map.pairs)) in
    subst (λ text. OnOk c.begin_map.result (Begins text c.args.line.now.items c.args.stack.now.items c.begin_map.new.line.items c.begin_map.new.stack.items))
    is c.begin_map.ensures.ok
