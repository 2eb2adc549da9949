use Rattle.std.proofs.Common.{rules}
use Rattle.qs_callers.proofs.ByFound.{by_found}
use Rattle.qs_callers.proofs.calls.rewritten.Goals as goal

pub returns : goal.returns
returns c = by_found _ _ c.in_ok-query.query c.in_ok-query.ensures.exact c.to_string.result (λ text is. let written = rw is at c.to_string.ensures in search rules)
