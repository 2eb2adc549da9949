use Rattle.qs_data.proofs.Common.{◌≡◌, drop, Some, is_written_key, pairs_in}
use Rattle.qs_data.proofs.data.plain.is_written_key.Given as goal

abbrev pub invariant-loop-pair : goal.invariant-loop-pair
invariant-loop-pair l = is_written_key (Some l.text) (pairs_in l.pairs) ≡ is_written_key (Some l.text) (pairs_in (drop l.pair-index l.pairs))
