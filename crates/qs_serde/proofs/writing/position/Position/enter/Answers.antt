use Rattle.std.proofs.Common.{sym, ◌∙◌}
use Rattle.qs_data.specs.write.Scalars.{scalar_text}
use Rattle.qs_serde.proofs.Positions.{entered, not_entered}
use Rattle.qs_serde.proofs.writing.position.Position.enter.Goals as goal

pub returns-in-Ok : goal.returns-in-Ok
returns-in-Ok c config s h =
    entered config s c.args.self.now (scalar_text c.args.segment) c.in-Ok.len c.enter.new.self (sym c.is_some.ensures ∙ c.if-is_some.false) c.in-Ok.ensures.ok h

pub returns-in-Err : goal.returns-in-Err
returns-in-Err c config s h =
    not_entered config s c.args.self.now (scalar_text c.args.segment) c.in-Err.stop c.enter.new.self (sym c.is_some.ensures ∙ c.if-is_some.false) c.in-Err.ensures.err h
