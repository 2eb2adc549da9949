use Rattle.std.specs.Float.{binary32}
use Rattle.std.specs.Float.Parse.{IsParseFloatResult, ParsesFloat}
use Rattle.qs_serde.proofs.ReadNumbers.{float_parsed}
use Rattle.qs_serde.proofs.reading.steps.TreeFormatFormat.f32.Goals as goal

pub returns-clause-exact : goal.returns-clause-exact
returns-clause-exact c = float_parsed binary32 (λ t r. ParsesFloat binary32 32 t r × IsParseFloatResult binary32 t r) (λ t r h. h.1) c.args.self.now c.parsed.result c.parsed.ensures.parsed
