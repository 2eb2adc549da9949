use Rattle.qs_spec.proofs.Lookup.{found_by_lookup}
use Rattle.qs_spec.proofs.keys.found_by_lookup.Goals as goal

pub returns : goal.returns
returns c = found_by_lookup
