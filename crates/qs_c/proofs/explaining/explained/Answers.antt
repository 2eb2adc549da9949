use Rattle.std.proofs.Common.{Ok, subst}
use Rattle.std.specs.declared.alloc.AllocError.{AllocError}
use Rattle.qs_spec.specs.Config.{Config}
use Rattle.qs_data.specs.shape.Views.{shape_of}
use Rattle.qs_explain.specs.Explains.{Explains, ExplainsUnread}
use Rattle.qs_c.proofs.explaining.explained.Goals as goal

pub returns-clause-line : goal.returns-clause-line
returns-clause-line c =
    let s = shape_of c.in_ok-shape.shape in
    let input = c.args.input.now in
    let x = c.in_ok-explanation.explanation in
    let same = c.in_ok-config.ensures.config in
    record {
      shape = s;
      is_shape = c.in_ok-shape.ensures.shape;
      explanation = x;
      explains = subst (λ (g : Config). Explains {E = AllocError} g s input (Ok x)) same c.in_ok-explanation.ensures.exact;
      related = subst (λ (g : Config). ExplainsUnread {E = AllocError} g s input (Ok x)) same (c.in_ok-explanation.ensures.related c.in_ok-shape.ensures.distinct);
      is_line = c.in_ok-line_or_none.ensures;
    }
