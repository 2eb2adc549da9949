use Rattle.qs_spec.proofs.SameAsOne.{same_entries, same_lists}
use Rattle.qs_spec.proofs.read_back.writing_loses_nothing.Goals as goal

pub returns-clause-any_order : goal.returns-clause-any_order
returns-clause-any_order c = same_entries

pub returns-clause-lists_in_order : goal.returns-clause-lists_in_order
returns-clause-lists_in_order c = same_lists
