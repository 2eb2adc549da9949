use Rattle.qs_data.proofs.Common.{data_of}
use Rattle.qs_data.specs.data.internal.EqualityLaws.{data_same-Decides}
use Rattle.qs_data.proofs.data.data_laws.equality_of_data.Goals as goal

pub returns : goal.returns
returns c = λ a b. data_same-Decides (data_of a) (data_of b)
