use Rattle.qs_data.proofs.Common.{◌≡◌, ℕ, List, drop, map, string_bytes, list_any, bytes_eq, names_differ}
use Rattle.qs_data.specs.data.internal.Texts.{holds_text}
use Rattle.qs_data.proofs.shape.distinct.many_names_differ.Given as goal

abbrev pub invariant-loop-i : goal.invariant-loop-i
invariant-loop-i l = (l.differ ≡ names_differ (map string_bytes (drop l.i l.names))) × ((t : List ℕ) → holds_text l.texts t ≡ list_any (λ n. bytes_eq n t) (map string_bytes (drop l.i l.names)))
