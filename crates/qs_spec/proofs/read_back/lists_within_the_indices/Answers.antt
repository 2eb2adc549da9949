use Rattle.std.proofs.Common.{nat_le, ap}
use Rattle.qs_spec.proofs.read_back.lists_within_the_indices.Goals as goal

pub returns-clause-as_many : goal.returns-clause-as_many
returns-clause-as_many c = λ ds e. ap (λ n. nat_le n 4294967295) e

pub returns-clause-one_more : goal.returns-clause-one_more
returns-clause-one_more c = λ ds e. ap (λ n. nat_le n 4294967295) e
