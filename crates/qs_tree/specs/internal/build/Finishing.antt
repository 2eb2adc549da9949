-- What a map holds while it is finished.
use Rattle.std.specs.Prelude.{◌≡◌, ℕ, suc, ◌+◌, List, [], ◌∷◌, ◌++◌, map, Option, Some, None}
use Rattle.std.specs.List.Sorted.{IsStrictlySortedBy}
use Rattle.std.specs.Map.{keys_of}
use Rattle.std.specs.Vec.Iter.{into_iter_items}
use Rattle.qs_spec.specs.Tree.{Tree, Entries, mapping, no_entries, entry}
use Rattle.qs_tree.specs.declared.tree.key.Key.{Key}
use Rattle.qs_tree.specs.declared.build.builder.TreeBuilder.{TreeBuilder}
use Rattle.qs_tree.specs.declared.build.builder.MapBuilder.{MapBuilder}
use Rattle.qs_tree.specs.declared.build.finishing.Level.{Level}
use Rattle.qs_tree.specs.declared.build.finishing.OuterLevel.{OuterLevel}
use Rattle.qs_tree.specs.tree.Keys.{key_cmp}
use Rattle.qs_tree.specs.tree.Views.{entries_from}
use Rattle.qs_tree.specs.internal.tree.KeyTrees.{key_trees}
use Rattle.qs_tree.specs.internal.build.Builder.{built_tree, built_entries}

-- the keys of entries under construction, with their nodes as trees
abbrev pub built_pairs : List (Key × TreeBuilder) → List (Key × Tree)
built_pairs es = map (λ p. (p.0, built_tree p.1)) es

-- the remaining entries of a level
abbrev pub left_pairs : Level → List (Key × Tree)
left_pairs level = built_pairs (into_iter_items level.left)

-- the entries of a level
abbrev pub level_pairs : Level → List (Key × Tree)
level_pairs level = key_trees level.done ++ left_pairs level

-- the entries from the map that was found on, or none
abbrev pub from_map : Option (Key × MapBuilder) → Level → List (Key × Tree)
from_map None level = []
from_map (Some p) level = (p.0, mapping (built_entries p.1)) ∷ left_pairs level

-- the entries of a frame's map, with a node at the key of the map below it
abbrev pub with_node : OuterLevel → Tree → List (Key × Tree)
with_node w t = key_trees w.level.done ++ (w.key, t) ∷ left_pairs w.level

-- how many maps there are
abbrev mutual
  pub map_count : Tree → ℕ
  map_count (mapping es) = suc (entries_map_count es)
  map_count t = 0

  pub entries_map_count : Entries → ℕ
  entries_map_count no_entries = 0
  entries_map_count (entry k escaped t es) = map_count t + entries_map_count es

abbrev pub maps_among : List (Key × Tree) → ℕ
maps_among ps = entries_map_count (entries_from ps)

-- how many maps of a level aren't finished
abbrev pub maps_left : Level → ℕ
maps_left level = maps_among (left_pairs level)

-- the level has the entries of a map, in the order of their keys, and none of its maps is taken out
pub record IsOpened (es : Entries) (level : Level) : Type 0 where
  pub all : entries_from (level_pairs level) ≡ es
  pub sorted : IsStrictlySortedBy key_cmp (keys_of (level_pairs level))
  pub maps : maps_left level ≡ entries_map_count es
