use Rattle.qs_spec.proofs.ScalarsBack.{boolean_back, unsigned_back, positive_back, negative_back, character_back, name_back}
use Rattle.qs_spec.proofs.scalars.written_scalars_are_parsed.Goals as goal

pub returns-clause-boolean : goal.returns-clause-boolean
returns-clause-boolean c = boolean_back

pub returns-clause-unsigned : goal.returns-clause-unsigned
returns-clause-unsigned c = unsigned_back

pub returns-clause-positive : goal.returns-clause-positive
returns-clause-positive c = positive_back

pub returns-clause-negative : goal.returns-clause-negative
returns-clause-negative c = negative_back

pub returns-clause-character : goal.returns-clause-character
returns-clause-character c = character_back

pub returns-clause-name : goal.returns-clause-name
returns-clause-name c = name_back
