use Rattle.qs_spec.proofs.Equivalent.{equivalent, equivalent_by_places}
use Rattle.qs_spec.proofs.orders.reordered_inputs.Goals as goal

pub returns-clause-by_places : goal.returns-clause-by_places
returns-clause-by_places c = equivalent_by_places

pub returns-clause-by_cases : goal.returns-clause-by_cases
returns-clause-by_cases c = equivalent
