-- Which strings a value owns instead of borrowing them.
use Rattle.std.specs.Prelude.{Bool, List, [], ◌∷◌, ◌++◌}
use Rattle.qs_tree.specs.declared.tree.key.Key.{Key}
use Rattle.qs_tree.specs.declared.tree.key.Key.TheVariants as key
use Rattle.qs_tree.specs.declared.tree.value.ParsedValue.{ParsedValue, fold-ParsedValue}
use Rattle.qs_tree.specs.declared.tree.value.ParsedValue.TheOpen.{ParsedValue-F, ParsedMap-F}
use Rattle.qs_tree.specs.declared.tree.map.ParsedMap.{ParsedMap, fold-ParsedMap}
use Rattle.qs_tree.specs.escape.Copies.{is_owned}

-- whether a key owns its string, if it is a string key
abbrev pub key_owns : Key → List Bool
key_owns (key.Int n) = []
key_owns (key.String text) = is_owned text ∷ []

-- the strings of items, and of entries with their keys
abbrev pub items_own : List (List Bool) → List Bool
items_own [] = []
items_own (v ∷ vs) = v ++ items_own vs

abbrev pub entries_own : List (Key × List Bool) → List Bool
entries_own [] = []
entries_own (p ∷ ps) = key_owns p.0 ++ (p.1 ++ entries_own ps)

-- one level of a value
abbrev pub owns_step : ParsedValue-F (List Bool) (List Bool) → List Bool
owns_step (ParsedValue-F.Map m) = m
owns_step (ParsedValue-F.Sequence v) = items_own v.items
owns_step (ParsedValue-F.String text) = is_owned text ∷ []
owns_step ParsedValue-F.Null = []
owns_step ParsedValue-F.NoValue = []
owns_step ParsedValue-F.Uninitialized = []

-- one level of a map
abbrev pub map_owns_step : ParsedMap-F (List Bool) (List Bool) → List Bool
map_owns_step m = entries_own m.map

-- for each string in a value, from left to right, whether it is owned
abbrev pub owns : ParsedValue → List Bool
owns = fold-ParsedValue (List Bool) (List Bool) owns_step map_owns_step

-- the same for a map
abbrev pub map_owns : ParsedMap → List Bool
map_owns = fold-ParsedMap (List Bool) (List Bool) owns_step map_owns_step
