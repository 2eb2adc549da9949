use Rattle.std.proofs.Common.{refl}
use Rattle.serde.specs.Spelling.{spelled}
use Rattle.qs_spec.proofs.OnLiterals.{on_literals}
use Rattle.qs_serde.proofs.writing.laws.worked_texts.Goals as goal

pub returns-clause-structure : goal.returns-clause-structure
unfolding on_literals spelled
returns-clause-structure c = refl

pub returns-clause-indexed : goal.returns-clause-indexed
unfolding on_literals spelled
returns-clause-indexed c = refl

pub returns-clause-empty_indexed : goal.returns-clause-empty_indexed
unfolding on_literals spelled
returns-clause-empty_indexed c = refl

pub returns-clause-unindexed : goal.returns-clause-unindexed
unfolding on_literals spelled
returns-clause-unindexed c = refl

pub returns-clause-structs_in_a_list : goal.returns-clause-structs_in_a_list
unfolding on_literals spelled
returns-clause-structs_in_a_list c = refl

pub returns-clause-variants : goal.returns-clause-variants
unfolding on_literals spelled
returns-clause-variants c = refl

pub returns-clause-map : goal.returns-clause-map
unfolding on_literals spelled
returns-clause-map c = refl

pub returns-clause-flattened : goal.returns-clause-flattened
unfolding on_literals spelled
returns-clause-flattened c = refl

pub returns-clause-absent : goal.returns-clause-absent
unfolding on_literals spelled
returns-clause-absent c = refl

pub returns-clause-empty_map : goal.returns-clause-empty_map
unfolding on_literals spelled
returns-clause-empty_map c = refl

pub returns-clause-too_deep : goal.returns-clause-too_deep
unfolding on_literals spelled
returns-clause-too_deep c = refl

pub returns-clause-two_keys : goal.returns-clause-two_keys
unfolding on_literals spelled
returns-clause-two_keys c = refl
