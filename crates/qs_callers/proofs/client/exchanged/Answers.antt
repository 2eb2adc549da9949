use Rattle.std.proofs.Common.{◌∙◌}
use Rattle.qs_callers.proofs.Exchange as law
use Rattle.qs_callers.proofs.client.exchanged.Goals as goal

pub returns : goal.returns
returns g c = λ plain.
    law.exchanged g.T.Deserialize.table g.T.Serialize.datum g.met.T.RoundTrip.same_datum c.args.value.now plain
    _ (c.as_str.ensures.value ∙ c.in_ok-query.ensures.1) c.from_str.result c.from_str.ensures.back
