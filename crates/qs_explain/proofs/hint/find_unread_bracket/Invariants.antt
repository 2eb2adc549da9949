use Rattle.std.proofs.Common.{◌≡◌, drop}
use Rattle.qs_explain.specs.Hint.{bracket_from, unread_bracket}
use Rattle.qs_explain.proofs.hint.find_unread_bracket.Given as goal

abbrev pub invariant-loop-at : goal.invariant-loop-at
invariant-loop-at l = bracket_from l.is_form l.in_key l.at l.before.0 l.before.1 (drop l.at l.input) ≡ unread_bracket l.is_form l.input
