use Rattle.std.proofs.Common.{refl}
use Rattle.qs_standards.proofs.OnBoth.{reads_both}
use Rattle.qs_standards.proofs.examples.read_alike.Goals as goal

pub returns-clause-name : goal.returns-clause-name
returns-clause-name c = reads_both _ _ _ refl refl refl

pub returns-clause-empty_value : goal.returns-clause-empty_value
returns-clause-empty_value c = reads_both _ _ _ refl refl refl

pub returns-clause-first_equals : goal.returns-clause-first_equals
returns-clause-first_equals c = reads_both _ _ _ refl refl refl

pub returns-clause-plus : goal.returns-clause-plus
returns-clause-plus c = reads_both _ _ _ refl refl refl

pub returns-clause-empty_pieces : goal.returns-clause-empty_pieces
returns-clause-empty_pieces c = reads_both _ _ _ refl refl refl

pub returns-clause-brackets : goal.returns-clause-brackets
returns-clause-brackets c = reads_both _ _ _ refl refl refl

pub returns-clause-empty_name : goal.returns-clause-empty_name
returns-clause-empty_name c = reads_both _ _ _ refl refl refl

pub returns-clause-empty_name_later : goal.returns-clause-empty_name_later
returns-clause-empty_name_later c = reads_both _ _ _ refl refl refl

pub returns-clause-nothing : goal.returns-clause-nothing
returns-clause-nothing c = reads_both _ _ _ refl refl refl

pub returns-clause-index : goal.returns-clause-index
returns-clause-index c = reads_both _ _ _ refl refl refl

pub returns-clause-escaped_separators : goal.returns-clause-escaped_separators
returns-clause-escaped_separators c = reads_both _ _ _ refl refl refl

pub returns-clause-percent : goal.returns-clause-percent
returns-clause-percent c = reads_both _ _ _ refl refl refl

pub returns-clause-empty_name_and_value : goal.returns-clause-empty_name_and_value
returns-clause-empty_name_and_value c = reads_both _ _ _ refl refl refl
