use Rattle.std.specs.Float.{binary64}
use Rattle.std.specs.Float.Parse.{IsParseFloatResult, ParsesFloat}
use Rattle.qs_serde.proofs.ReadNumbers.{float_parsed}
use Rattle.qs_serde.proofs.reading.steps.TreeFormatFormat.f64.Goals as goal

pub returns-clause-exact : goal.returns-clause-exact
returns-clause-exact c = float_parsed binary64 (λ t r. ParsesFloat binary64 64 t r × IsParseFloatResult binary64 t r) (λ t r h. h.1) c.args.self.now c.parsed.result c.parsed.ensures.parsed
