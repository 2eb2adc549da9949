use Rattle.qs_data.proofs.Common.{◌≡◌, drop, map, string_bytes, names_differ}
use Rattle.qs_data.proofs.shape.distinct.few_names_differ.Given as goal

abbrev pub invariant-loop-i : goal.invariant-loop-i
invariant-loop-i l = names_differ (map string_bytes l.names) ≡ names_differ (map string_bytes (drop l.i l.names))
