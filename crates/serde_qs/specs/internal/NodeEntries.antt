-- Steps of reading a map from the entries of a node.
use Rattle.std.specs.Prelude.{ℕ, cond, List, Option, Some, None, option_and_then}
use Rattle.std.specs.Str.{is_utf8}
use Rattle.qs_spec.specs.Segment.{segment_text}
use Rattle.qs_spec.specs.Tree.{Tree, Entries}
use Rattle.qs_spec.specs.Tree.Entries.{no_entries, entry}
use Rattle.serde_qs.specs.Maps.{with_value}

-- values with the values of the entries, one after another, each at the text of its key
abbrev pub entries_onto : {V : Type 0} → (Tree → Option V) → (List ℕ → Option V) → Entries → Option (List ℕ → Option V)
entries_onto r f no_entries = Some f
entries_onto r f (entry k escaped t es) =
    cond (is_utf8 (segment_text k)) (option_and_then (λ v. entries_onto r (with_value (segment_text k) v f) es) (r t)) None
