use Rattle.std.proofs.Common.{◌≡◌, drop}
use Rattle.qs_explain.specs.PairRange.{key_from, key_len}
use Rattle.qs_explain.proofs.state.find_key_len.Given as goal

abbrev pub invariant-loop-at : goal.invariant-loop-at
invariant-loop-at l = key_from l.is_form l.max_depth l.state l.at l.before.0 l.before.1 (drop l.at l.pair) ≡ key_len l.is_form l.max_depth l.pair
