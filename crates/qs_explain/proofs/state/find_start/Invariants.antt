use Rattle.std.proofs.Common.{◌≡◌, ◌≤◌, drop}
use Rattle.qs_explain.specs.States.{pair_start, start_from}
use Rattle.qs_explain.proofs.state.find_start.Given as goal

abbrev pub invariant-loop-at : goal.invariant-loop-at
invariant-loop-at l = (start_from l.is_form l.max_depth l.state l.at l.start l.before.0 l.before.1 (drop l.at l.input) ≡ pair_start l.is_form l.max_depth l.input) × (l.start ≤ l.at)
