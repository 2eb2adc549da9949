-- A measure of a tree that is being dropped.
use Rattle.std.specs.Prelude.{ℕ, ◌+◌, ◌<◌, ◌≤◌}
use Rattle.qs_spec.specs.Tree.{Tree, Items, Entries, leaf, sequence, mapping, uninitialized, no_items, item, no_entries, entry}

-- how many nodes a tree has; maps and sequences count twice
abbrev mutual
  pub node_count : Tree → ℕ
  node_count (leaf l) = 1
  node_count (sequence xs) = 2 + items_node_count xs
  node_count (mapping es) = 2 + entries_node_count es
  node_count uninitialized = 1

  pub items_node_count : Items → ℕ
  items_node_count no_items = 0
  items_node_count (item t xs) = node_count t + items_node_count xs

  pub entries_node_count : Entries → ℕ
  entries_node_count no_entries = 0
  entries_node_count (entry k escaped t es) = node_count t + entries_node_count es

-- at least one node fewer, and at most one empty map or sequence fewer
abbrev pub DropsOne : ℕ → ℕ → Type 0
DropsOne before after = (after < before) × (before ≤ after + 2)
