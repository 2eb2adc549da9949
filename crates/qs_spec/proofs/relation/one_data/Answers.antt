use Rattle.qs_spec.proofs.DataRelatedIsRead.{one_data}
use Rattle.qs_spec.proofs.relation.one_data.Goals as goal

pub returns : goal.returns
returns c = one_data
