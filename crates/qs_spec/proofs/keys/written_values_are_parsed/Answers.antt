use Rattle.qs_spec.proofs.KeysBack.{leaf_back, leaf_text_back}
use Rattle.qs_spec.proofs.keys.written_values_are_parsed.Goals as goal

pub returns-clause-leaf : goal.returns-clause-leaf
returns-clause-leaf c = leaf_back

pub returns-clause-bytes : goal.returns-clause-bytes
returns-clause-bytes c = leaf_text_back
