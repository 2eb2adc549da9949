use Rattle.qs_data.specs.shape.Views.{shape_of}
use Rattle.qs_explain.proofs.Parsed.{fields_explained}
use Rattle.qs_explain.proofs.fields.explain_fields.Goals as goal

pub returns : goal.returns
returns c = fields_explained c.args.config (shape_of c.args.shape.now) c.args.input.now c.parse.result c.of_parsed.result c.parse.ensures.parsed c.of_parsed.ensures
