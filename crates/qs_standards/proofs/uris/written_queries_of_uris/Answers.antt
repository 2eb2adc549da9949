use Rattle.std.proofs.Common.{true, false}
use Rattle.qs_standards.proofs.Queries.{queries, unwise, exact}
use Rattle.qs_standards.proofs.uris.written_queries_of_uris.Goals as goal

pub returns-clause-form_mode : goal.returns-clause-form_mode
returns-clause-form_mode c = queries true

pub returns-clause-query : goal.returns-clause-query
returns-clause-query c = queries false

pub returns-clause-exact : goal.returns-clause-exact
returns-clause-exact c = exact

pub returns-clause-unwise : goal.returns-clause-unwise
returns-clause-unwise c = unwise
