use Rattle.qs_standards.proofs.Alike.{named_alike}
use Rattle.qs_standards.proofs.forms.names_and_values.Goals as goal

pub returns : goal.returns
returns c = named_alike
