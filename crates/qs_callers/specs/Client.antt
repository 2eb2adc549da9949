-- What stands in a request target.
use Rattle.std.specs.Prelude.{◌≡◌, ⊤, ℕ, List, Result, Ok, Err, codes, ◌++◌, eqb}
use Rattle.std.specs.List.{after_first}
use Rattle.qs_tree.specs.declared.error.Error.{Error}
use Rattle.qs_tree.specs.declared.error.Error.TheVariants.{OutOfMemory}

-- its query: what is behind the first question mark
abbrev pub query_behind : List ℕ → List ℕ
query_behind target = after_first (λ byte. eqb byte 63) target

-- a target with this path and query
abbrev pub target_with : List ℕ → List ℕ → List ℕ
target_with path query = path ++ (codes "?" ++ query)

-- the result is this value, or an allocation failed
abbrev pub IsValue : {X V : Type 0} → (X → V) → V → Result X Error → Type 0
IsValue value wanted (Ok found) = value found ≡ wanted
IsValue value wanted (Err OutOfMemory) = ⊤
IsValue value wanted (Err _) = ⊥
