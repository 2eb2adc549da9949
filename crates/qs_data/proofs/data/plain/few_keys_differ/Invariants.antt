use Rattle.qs_data.proofs.Common.{◌≡◌, drop, written_keys_differ, pairs_in}
use Rattle.qs_data.proofs.data.plain.few_keys_differ.Given as goal

abbrev pub invariant-loop-i : goal.invariant-loop-i
invariant-loop-i l = written_keys_differ (pairs_in l.pairs) ≡ written_keys_differ (pairs_in (drop l.i l.pairs))
