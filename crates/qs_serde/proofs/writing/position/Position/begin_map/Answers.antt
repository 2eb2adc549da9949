use Rattle.qs_serde.proofs.Positions.{flattened}
use Rattle.qs_serde.proofs.writing.position.Position.begin_map.Goals as goal

pub returns-in-Flattened : goal.returns-in-Flattened
returns-in-Flattened c config s at = flattened config s c.args.self.now c.open-in-Flattened.new.self c.open-in-Flattened.result at c.in-Flattened.is c.open-in-Flattened.ensures
