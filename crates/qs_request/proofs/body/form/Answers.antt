use Rattle.std.proofs.Common.{rules}
use Rattle.qs_request.proofs.body.form.Goals as goal

pub returns-clause-back : goal.returns-clause-back
returns-clause-back g c = record {
  returns = λ x es plain order is.
      let same = c.deserialize_bytes.ensures.back.returns x es plain order is in search (rules);
}
