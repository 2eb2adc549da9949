use Rattle.qs_spec.proofs.RelatedIsParsed.{found_pairs, are_pairs}
use Rattle.qs_spec.proofs.ReadOn.{after_ampersand, after_pair}
use Rattle.qs_spec.proofs.parsing.pairs_are_parsed.Goals as goal

pub returns-clause-related : goal.returns-clause-related
returns-clause-related c = λ depth ts ps. (are_pairs depth ts ps, found_pairs)

pub returns-clause-after_ampersand : goal.returns-clause-after_ampersand
returns-clause-after_ampersand c = after_ampersand

pub returns-clause-after_pair : goal.returns-clause-after_pair
returns-clause-after_pair c = after_pair
