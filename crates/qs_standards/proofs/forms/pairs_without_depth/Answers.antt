use Rattle.qs_standards.proofs.Pieces.{pieces_alone}
use Rattle.qs_standards.proofs.forms.pairs_without_depth.Goals as goal

pub returns : goal.returns
returns c = pieces_alone
