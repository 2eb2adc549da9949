use Rattle.qs_data.specs.shape.Views.{shape_of}
use Rattle.qs_c.proofs.Outcomes.{unread_by_text}
use Rattle.qs_c.proofs.reading.read.Goals as goal

pub returns-clause-none : goal.returns-clause-none
returns-clause-none c =
    unread_by_text c.read_json.result c.in_ok-config.config c.args.settings.now (shape_of c.in_ok-shape.shape) c.args.shape.now c.args.input.now c.in_ok-config.ensures.config
    c.in_ok-shape.ensures.shape c.read_json.ensures.none
