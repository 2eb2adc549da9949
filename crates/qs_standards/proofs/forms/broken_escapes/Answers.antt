use Rattle.qs_standards.proofs.Decoding.{alike}
use Rattle.qs_standards.proofs.forms.broken_escapes.Goals as goal

pub returns : goal.returns
returns c = alike
