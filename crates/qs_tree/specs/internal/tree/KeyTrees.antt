-- Entries with their values as trees.
use Rattle.std.specs.Prelude.{List, map}
use Rattle.qs_spec.specs.Tree.{Tree}
use Rattle.qs_tree.specs.declared.tree.key.Key.{Key}
use Rattle.qs_tree.specs.declared.tree.value.ParsedValue.{ParsedValue}
use Rattle.qs_tree.specs.tree.Views.{tree_of}

-- the keys of entries, with their values as trees
abbrev pub key_trees : List (Key × ParsedValue) → List (Key × Tree)
key_trees es = map (λ p. (p.0, tree_of p.1)) es
