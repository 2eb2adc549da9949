-- The items of a node, index by index.
use Rattle.std.specs.Prelude.{Bool, true, ◌&&◌, List, [], ◌∷◌, map, Option, Some, None}
use Rattle.qs_spec.specs.Tree.{Tree}
use Rattle.qs_spec.specs.Node.{sequence_items, placed}
use Rattle.qs_tree.specs.tree.Views.{tree_of, items_from, entries_of_map}
use Rattle.qs_data.specs.declared.read.items.NodeItems.{NodeItems}
use Rattle.qs_data.specs.declared.read.items.NodeItems.TheVariants.{Empty, One, Sequence, Places}
use Rattle.qs_data.specs.read.TreeText.{is_text}

-- each item, and none at an index that isn't the one that is due
abbrev pub items_view : NodeItems → List (Option Tree)
items_view Empty = []
items_view (One value) = Some (tree_of value.now) ∷ []
items_view (Sequence values) = sequence_items (items_from (map tree_of values.now))
items_view (Places map) = placed 0 (entries_of_map map.now)

-- the first item, if there is one; an entry elsewhere is rejected
abbrev pub first_item : List (Option Tree) → Option (Option Tree)
first_item [] = Some None
first_item (None ∷ xs) = None
first_item (Some t ∷ xs) = Some (Some t)

-- all texts of the items are UTF-8
abbrev pub are_text : List (Option Tree) → Bool
are_text [] = true
are_text (None ∷ xs) = are_text xs
are_text (Some t ∷ xs) = is_text t && are_text xs
