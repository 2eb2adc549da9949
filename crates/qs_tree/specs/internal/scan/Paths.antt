-- The keys of a path.
use Rattle.std.specs.Prelude.{ℕ, zero, suc, List, [], ◌∷◌}
use Rattle.qs_tree.specs.declared.tree.key.Key.{Key}

-- this many keys: a first one and the rest
abbrev pub keys_in : ℕ → Key → List Key → List Key
keys_in zero first rest = []
keys_in (suc n) first rest = first ∷ rest
