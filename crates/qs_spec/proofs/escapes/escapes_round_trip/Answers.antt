use Rattle.qs_spec.proofs.Unescaped.{decoded-encoded}
use Rattle.qs_spec.proofs.escapes.escapes_round_trip.Goals as goal

pub returns : goal.returns
returns c = decoded-encoded
