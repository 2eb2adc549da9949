-- Leaves whose keys are distinct.
use Rattle.std.specs.Prelude.{◌≢◌, ℕ, List}
use Rattle.std.specs.List.{AllPairs}
use Rattle.std.specs.Hash.FoldHasher.{finish, initial, write}
use Rattle.qs_spec.specs.Segment.{Segment}
use Rattle.qs_spec.specs.Segment.Segment.{Int, Str}
use Rattle.qs_tree.specs.declared.tree.key.Key.{Key}
use Rattle.qs_tree.specs.declared.tree.value.ParsedValue.{ParsedValue}
use Rattle.qs_tree.specs.tree.Views.{segment_of_key}

-- no two keys are equal
abbrev pub HaveDistinctKeys : List (Key × ParsedValue) → Type 0
HaveDistinctKeys es = AllPairs (λ p q. segment_of_key p.0 ≢ segment_of_key q.0) es

-- an integer key as it is, and the hash of a string key
abbrev pub hash_of : Segment → ℕ
hash_of (Int n) = n
hash_of (Str bytes) = finish (write initial bytes)
