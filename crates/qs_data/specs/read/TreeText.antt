-- Whether all texts of a tree are UTF-8.
use Rattle.std.specs.Prelude.{Bool, true, ◌&&◌}
use Rattle.std.specs.Str.{is_utf8}
use Rattle.qs_spec.specs.Segment.{segment_text}
use Rattle.qs_spec.specs.Leaf.{leaf_text}
use Rattle.qs_spec.specs.Tree.{Tree, Items, Entries}
use Rattle.qs_spec.specs.Tree.Tree.{leaf, sequence, mapping, uninitialized}
use Rattle.qs_spec.specs.Tree.Items.{no_items, item}
use Rattle.qs_spec.specs.Tree.Entries.{no_entries, entry}

-- each leaf and each key is
abbrev mutual
  pub is_text : Tree → Bool
  is_text (leaf l) = is_utf8 (leaf_text l)
  is_text (sequence xs) = items_are_text xs
  is_text (mapping es) = entries_are_text es
  is_text uninitialized = true

  pub items_are_text : Items → Bool
  items_are_text no_items = true
  items_are_text (item t xs) = is_text t && items_are_text xs

  pub entries_are_text : Entries → Bool
  entries_are_text no_entries = true
  entries_are_text (entry k escaped t es) = is_utf8 (segment_text k) && is_text t && entries_are_text es
