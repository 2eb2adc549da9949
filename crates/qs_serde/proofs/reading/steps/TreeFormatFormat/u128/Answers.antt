use Rattle.std.specs.Str.Parse.{ExplainsUnsignedError, HasUnsignedDigitsIfOk, ParsesUnsigned}
use Rattle.qs_serde.proofs.ReadNumbers.{unsigned_parsed, unsigned_step}
use Rattle.qs_serde.proofs.reading.steps.TreeFormatFormat.u128.Goals as goal

pub returns-clause-exact : goal.returns-clause-exact
returns-clause-exact c = unsigned_parsed (λ t r. ParsesUnsigned 128 10 t r × ExplainsUnsignedError 10 t r × HasUnsignedDigitsIfOk t r) (λ t r h. h.0) c.args.self.now c.parsed.result c.parsed.ensures.parsed

pub returns-clause-step : goal.returns-clause-step
returns-clause-step c = unsigned_step c.args.self.now _ c.parsed.result c.parsed.ensures.takes (unsigned_parsed (λ t r. ParsesUnsigned 128 10 t r × ExplainsUnsignedError 10 t r × HasUnsignedDigitsIfOk t r) (λ t r h. h.0) c.args.self.now c.parsed.result c.parsed.ensures.parsed)
