-- Equality of trees, ignoring ownership.
use Rattle.std.specs.Prelude.{Bool, true, false, ◌&&◌, bytes_eq}
use Rattle.qs_spec.specs.Segment.{is_same_segment}
use Rattle.qs_spec.specs.Leaf.{Leaf, NoValue, Null, Text}
use Rattle.qs_spec.specs.Tree.{Tree, Items, Entries, leaf, sequence, mapping, uninitialized, no_items, item, no_entries, entry}

-- equal leaves are of one kind and have the same bytes
abbrev pub leaf_same : Leaf → Leaf → Bool
leaf_same NoValue NoValue = true
leaf_same Null Null = true
leaf_same (Text b m) (Text c n) = bytes_eq b c
leaf_same _ _ = false

-- equal trees have equal items in the same order, or equal trees at the same keys
abbrev mutual
  pub tree_same : Tree → Tree → Bool
  tree_same (leaf l) (leaf o) = leaf_same l o
  tree_same (sequence xs) (sequence ys) = items_same xs ys
  tree_same (mapping es) (mapping fs) = entries_same es fs
  tree_same uninitialized uninitialized = true
  tree_same _ _ = false

  pub items_same : Items → Items → Bool
  items_same no_items no_items = true
  items_same (item t xs) (item u ys) = tree_same t u && items_same xs ys
  items_same _ _ = false

  pub entries_same : Entries → Entries → Bool
  entries_same no_entries no_entries = true
  entries_same (entry k m t es) (entry l n u fs) = (is_same_segment k l && tree_same t u) && entries_same es fs
  entries_same _ _ = false
