-- How many lists and maps are in a tree.
use Rattle.std.specs.Prelude.{ℕ, suc, ◌+◌, List, [], ◌∷◌, Option, Some, None}
use Rattle.qs_spec.specs.Tree.{Tree, Items, Entries}
use Rattle.qs_spec.specs.Tree.Tree.{leaf, sequence, mapping, uninitialized}
use Rattle.qs_spec.specs.Tree.Items.{no_items, item}
use Rattle.qs_spec.specs.Tree.Entries.{no_entries, entry}

abbrev mutual
  pub tree_size : Tree → ℕ
  tree_size (leaf l) = 0
  tree_size (sequence xs) = suc (items_size xs)
  tree_size (mapping es) = suc (entries_size es)
  tree_size uninitialized = 0

  pub items_size : Items → ℕ
  items_size no_items = 0
  items_size (item t xs) = tree_size t + items_size xs

  pub entries_size : Entries → ℕ
  entries_size no_entries = 0
  entries_size (entry k escaped t es) = tree_size t + entries_size es

abbrev pub list_size : List (Option Tree) → ℕ
list_size [] = 0
list_size (None ∷ xs) = list_size xs
list_size (Some t ∷ xs) = tree_size t + list_size xs
