use Rattle.std.specs.Int.{w128}
use Rattle.std.specs.Str.Parse.{ExplainsSignedError, HasSignedDigitsIfOk, ParsesSigned}
use Rattle.qs_serde.proofs.ReadNumbers.{signed_parsed, signed_step}
use Rattle.qs_serde.proofs.reading.steps.TreeFormatFormat.i128.Goals as goal

pub returns-clause-exact : goal.returns-clause-exact
returns-clause-exact c = signed_parsed (λ t r. ParsesSigned w128 10 t r × ExplainsSignedError 10 t r × HasSignedDigitsIfOk t r) (λ t r h. h.0) c.args.self.now c.parsed.result c.parsed.ensures.parsed

pub returns-clause-step : goal.returns-clause-step
returns-clause-step c = signed_step c.args.self.now _ c.parsed.result c.parsed.ensures.takes (signed_parsed (λ t r. ParsesSigned w128 10 t r × ExplainsSignedError 10 t r × HasSignedDigitsIfOk t r) (λ t r h. h.0) c.args.self.now c.parsed.result c.parsed.ensures.parsed)
