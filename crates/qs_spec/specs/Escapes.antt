-- Which texts of a tree are escaped.
use Rattle.std.specs.Prelude.{Bool, List, [], ◌∷◌, ◌++◌}
use Rattle.qs_spec.specs.Segment.{Segment}
use Rattle.qs_spec.specs.Segment.Segment.{Int, Str}
use Rattle.qs_spec.specs.Leaf.{Leaf}
use Rattle.qs_spec.specs.Leaf.Leaf.{NoValue, Null, Text}
use Rattle.qs_spec.specs.Tree.{Tree, Items, Entries}
use Rattle.qs_spec.specs.Tree.Tree.{leaf, sequence, mapping, uninitialized}
use Rattle.qs_spec.specs.Tree.Items.{no_items, item}
use Rattle.qs_spec.specs.Tree.Entries.{no_entries, entry}

-- whether a key is escaped, if it is a text
abbrev pub key_escapes : Segment → Bool → List Bool
key_escapes (Int n) escaped = []
key_escapes (Str bytes) escaped = escaped ∷ []

-- whether a leaf is escaped, if it is a text
abbrev pub leaf_escapes : Leaf → List Bool
leaf_escapes NoValue = []
leaf_escapes Null = []
leaf_escapes (Text bytes escaped) = escaped ∷ []

-- for each text among a tree's keys and leaves, from left to right, whether it is escaped
abbrev mutual
  pub escapes : Tree → List Bool
  escapes (leaf l) = leaf_escapes l
  escapes (sequence xs) = item_escapes xs
  escapes (mapping es) = entry_escapes es
  escapes uninitialized = []

  pub item_escapes : Items → List Bool
  item_escapes no_items = []
  item_escapes (item t xs) = escapes t ++ item_escapes xs

  pub entry_escapes : Entries → List Bool
  entry_escapes no_entries = []
  entry_escapes (entry k escaped t es) = key_escapes k escaped ++ (escapes t ++ entry_escapes es)
