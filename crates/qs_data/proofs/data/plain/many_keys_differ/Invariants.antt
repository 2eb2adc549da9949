use Rattle.qs_data.proofs.Common.{◌≡◌, ℕ, List, drop, Some, is_written_key, written_keys_differ, pairs_in}
use Rattle.qs_data.specs.data.internal.Texts.{holds_text}
use Rattle.qs_data.proofs.data.plain.many_keys_differ.Given as goal

abbrev pub invariant-loop-i : goal.invariant-loop-i
invariant-loop-i l = (l.differ ≡ written_keys_differ (pairs_in (drop l.i l.pairs))) × ((t : List ℕ) → holds_text l.texts t ≡ is_written_key (Some t) (pairs_in (drop l.i l.pairs)))
