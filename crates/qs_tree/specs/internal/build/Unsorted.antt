-- What a map of leaves in no order is.
use Rattle.std.specs.Prelude.{List, [], ◌∷◌, Bool, false, IsTrue, map, unwrap_or}
use Rattle.std.specs.List.{list_all}
use Rattle.std.specs.Option.{is_some}
use Rattle.qs_spec.specs.Grammar.{Pair}
use Rattle.qs_spec.specs.History.{under}
use Rattle.qs_spec.specs.Leaf.{Leaf, NoValue}
use Rattle.qs_spec.specs.Tree.{Tree, Entries, entries_of, head_escaped, heads, node_within}
use Rattle.qs_tree.specs.declared.tree.key.Key.{Key}
use Rattle.qs_tree.specs.declared.tree.value.ParsedValue.{ParsedValue}
use Rattle.qs_tree.specs.internal.scan.Pairs.{leaf_in}
use Rattle.qs_tree.specs.tree.Views.{parsed_segment_of_key, tree_of}

-- a value as a leaf, or `NoValue` if it isn't one
abbrev pub leaf_held : ParsedValue → Leaf
leaf_held v = unwrap_or (leaf_in (tree_of v)) NoValue

-- the pairs of assigned leaves
abbrev pub leaf_pairs : List (Key × ParsedValue) → List Pair
leaf_pairs ls = map (λ p. record { path = parsed_segment_of_key p.0 ∷ []; push = false; leaf = leaf_held p.1 }) ls

-- the entries of a map with only these pairs
abbrev pub entries_of_leaves : List (Key × ParsedValue) → Entries
entries_of_leaves ls = let ps = leaf_pairs ls in entries_of (λ k. head_escaped k ps) (λ k. node_within 0 (under k ps)) (heads ps)

abbrev pub is_leaf : Tree → Bool
is_leaf t = is_some (leaf_in t)

abbrev pub AreLeaves : List (Key × ParsedValue) → Type 0
AreLeaves es = IsTrue (list_all (λ p. is_leaf (tree_of p.1)) es)
