use Rattle.std.proofs.Common.{refl, ap}
use Rattle.qs_spec.proofs.OnLiterals.{on_literals}
use Rattle.qs_spec.specs.Entry.{Output}
use Rattle.qs_standards.proofs.FlatData.{struct_flat, struct_form, map_form, map_whole}
use Rattle.qs_standards.proofs.texts.written_texts_are_forms.Goals as goal

pub returns-clause-of_struct : goal.returns-clause-of_struct
returns-clause-of_struct c = struct_form

pub returns-clause-of_map : goal.returns-clause-of_map
returns-clause-of_map c = map_form

pub returns-clause-whole_struct : goal.returns-clause-whole_struct
returns-clause-whole_struct c = λ config ns. ap (λ (o : Output). o.error) (struct_flat config ns)

pub returns-clause-whole_map : goal.returns-clause-whole_map
returns-clause-whole_map c = map_whole

pub returns-clause-empty_map : goal.returns-clause-empty_map
unfolding on_literals
returns-clause-empty_map c = λ config. refl
