use Rattle.qs_spec.proofs.KeysBack.{segment_back, text_back, place_back}
use Rattle.qs_spec.proofs.keys.written_keys_are_parsed.Goals as goal

pub returns-clause-segment : goal.returns-clause-segment
returns-clause-segment c = segment_back

pub returns-clause-text : goal.returns-clause-text
returns-clause-text c = text_back

pub returns-clause-place : goal.returns-clause-place
returns-clause-place c = place_back
