use Rattle.serde_qs.specs.internal.NumberLists.{signed_list}
use Rattle.serde_qs.proofs.helpers.laws.signed_list_comes_back.Goals as goal

pub returns : goal.returns
returns c = signed_list
