use Rattle.qs_standards.proofs.Kit.{parsed_same}
use Rattle.qs_standards.proofs.forms.kit_parser.Goals as goal

pub returns : goal.returns
returns c = parsed_same
