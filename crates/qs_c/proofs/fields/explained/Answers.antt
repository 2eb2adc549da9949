use Rattle.std.proofs.Common.{subst}
use Rattle.qs_spec.specs.Config.{Config}
use Rattle.qs_data.specs.shape.Views.{shape_of}
use Rattle.qs_explain.specs.Fields.{ExplainsFields}
use Rattle.qs_c.specs.Explained.{AreLines}
use Rattle.qs_c.proofs.fields.explained.Goals as goal

pub returns-clause-lines : goal.returns-clause-lines
returns-clause-lines c =
    let s = shape_of c.in_ok-shape.shape in
    let xs = c.in_ok-explanations.explanations.items in
    record {
      shape = s;
      is_shape = c.in_ok-shape.ensures.shape;
      explanations = xs;
      explains = subst (λ (g : Config). ExplainsFields g s c.args.input.now xs) c.in_ok-config.ensures.config c.in_ok-explanations.ensures;
      are_lines = subst (λ ys. AreLines ys c.in_ok-lines_of.field-0.items) c.deref.ensures.value c.in_ok-lines_of.ensures;
    }
