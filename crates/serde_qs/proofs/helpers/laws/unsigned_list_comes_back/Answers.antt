use Rattle.serde_qs.specs.internal.NumberLists.{unsigned_list}
use Rattle.serde_qs.proofs.helpers.laws.unsigned_list_comes_back.Goals as goal

pub returns : goal.returns
returns c = unsigned_list
