use Rattle.std.proofs.Common.{refl}
use Rattle.qs_serde.proofs.Positions.{merged}
use Rattle.qs_serde.proofs.writing.position.Position.end_map.Goals as goal

pub returns-in-Flattened : goal.returns-in-Flattened
returns-in-Flattened c config s at =
    merged config s c.args.self.now c.close.new.self c.in_ok-frame.frame c.saturating_add-self.result at (c.in_ok-value_comes.ensures.0 refl) c.in_ok-frame.ensures.frame c.in-Flattened.is
    (λ h. c.in_ok-frame.ensures.goes config s h) c.saturating_add-self.ensures
