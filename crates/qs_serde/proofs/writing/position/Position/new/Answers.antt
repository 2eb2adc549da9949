use Rattle.std.proofs.Common.{refl}
use Rattle.qs_serde.proofs.Positions.{stands_fresh}
use Rattle.qs_serde.proofs.writing.position.Position.new.Goals as goal

pub returns : goal.returns
returns c = stands_fresh c.args.config _ c.over.ensures c.new.ensures c.new-2.ensures refl
