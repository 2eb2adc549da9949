use Rattle.qs_data.specs.shape.Views.{shape_of}
use Rattle.qs_explain.proofs.Parsed.{explained}
use Rattle.qs_explain.proofs.Related.{explains_unread}
use Rattle.qs_explain.proofs.explaining.explain.Goals as goal

pub returns-clause-exact : goal.returns-clause-exact
returns-clause-exact c = explained c.args.config (shape_of c.args.shape.now) c.args.input.now c.parse.result c.explain_parsed.result c.parse.ensures.parsed c.explain_parsed.ensures

pub returns-clause-related : goal.returns-clause-related
returns-clause-related c = λ distinct. explains_unread c.args.config (shape_of c.args.shape.now) c.args.input.now c.explain_parsed.result distinct
    (explained c.args.config (shape_of c.args.shape.now) c.args.input.now c.parse.result c.explain_parsed.result c.parse.ensures.parsed c.explain_parsed.ensures)
