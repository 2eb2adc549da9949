-- From a tree under construction to a tree of the definitions.
use Rattle.std.specs.Prelude.{◌≡◌, List, map, Some, unwrap_or}
use Rattle.qs_spec.specs.Segment.{Segment}
use Rattle.qs_spec.specs.Tree.{Tree, Entries, mapping, uninitialized}
use Rattle.qs_tree.specs.declared.build.builder.TreeBuilder.{TreeBuilder, fold-TreeBuilder}
use Rattle.qs_tree.specs.declared.build.builder.TreeBuilder.TheVariants.{Value}
use Rattle.qs_tree.specs.declared.build.builder.MapBuilder.TheOpen.{TreeBuilder-F, MapBuilder-F}
use Rattle.qs_tree.specs.declared.build.builder.MapBuilder.{MapBuilder, fold-MapBuilder}
use Rattle.qs_tree.specs.declared.build.unsorted.Unsorted.{Unsorted}
use Rattle.qs_tree.specs.declared.tree.key.Key.{Key}
use Rattle.qs_tree.specs.declared.tree.value.ParsedValue.{ParsedValue}
use Rattle.qs_tree.specs.declared.tree.value.ParsedValue.TheVariants.{Uninitialized}
use Rattle.qs_tree.specs.tree.Views.{segment_of_key, parsed_segment_of_key, tree_of, entries_from}
use Rattle.qs_spec.specs.Node.{value_at_key}
use Rattle.qs_tree.specs.tree.Ordered.{AreOrdered}
use Rattle.qs_spec.specs.internal.InPlace.{update}
use Rattle.qs_tree.specs.internal.build.Unsorted.{entries_of_leaves}

-- the entries of a map of leaves in no order
abbrev pub unsorted_entries : Unsorted → Entries
unsorted_entries u = entries_of_leaves u.leaves.items

-- one level of a node, with what is inside already seen as trees
abbrev pub built_step : TreeBuilder-F Entries Tree → Tree
built_step (TreeBuilder-F.Value v) = tree_of v
built_step (TreeBuilder-F.Map m) = mapping m
built_step (TreeBuilder-F.Unsorted u) = mapping (unsorted_entries u)

abbrev pub built_map_step : MapBuilder-F Entries Tree → Entries
built_map_step (MapBuilder-F.Vector es) = entries_from es
built_map_step (MapBuilder-F.Tree m) = entries_from m.entries

-- the tree of a node
abbrev pub built_tree : TreeBuilder → Tree
built_tree = fold-TreeBuilder Entries Tree built_map_step built_step

abbrev pub built_entries : MapBuilder → Entries
built_entries = fold-MapBuilder Entries Tree built_map_step built_step

-- the entries of a vector or a search tree
abbrev pub entries_seen : List (Key × TreeBuilder) → Entries
entries_seen es = entries_from (map (λ p. (p.0, built_tree p.1)) es)

-- the entries of a finished map
abbrev pub entries_held : List (Key × ParsedValue) → Entries
entries_held es = entries_from (map (λ p. (p.0, tree_of p.1)) es)

-- a node without a pair
abbrev pub fresh : TreeBuilder
fresh = Value Uninitialized

-- entries with finished nodes as entries under construction
abbrev pub as_builders : List (Key × ParsedValue) → List (Key × TreeBuilder)
as_builders es = map (λ p. (p.0, Value p.1)) es

-- the node at a segment of a map, or an empty one if it is missing
abbrev pub child : Segment → Entries → Tree
child s es = unwrap_or (value_at_key s es) uninitialized

-- the node at a key is taken, and the other entries aren't changed
pub record Takes (k : Key) (old : Entries) (taken : Tree) (new : Entries) : Type 0 where
  pub node : taken ≡ child (segment_of_key k) old
  pub rest : (u : Tree) → update (parsed_segment_of_key k) (λ _. Some u) new ≡ update (parsed_segment_of_key k) (λ _. Some u) old
  pub ordered : AreOrdered old

-- the node isn't a map
abbrev pub IsNoMap : Tree → Type 0
IsNoMap (mapping es) = ⊥
IsNoMap t = Unit {0}

abbrev pub HasNoMap : TreeBuilder → Type 0
HasNoMap node = IsNoMap (built_tree node)
