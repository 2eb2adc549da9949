-- How many nodes a tree under construction has, when a child is changed or taken out.
use Rattle.qs_tree.proofs.Common.{◌≡◌, ℕ, ◌+◌, List, ap, ◌∙◌, Key, TreeBuilder, MapBuilder, Vector, node_count, entries_node_count, built_tree, built_entries, entries_seen}
use Rattle.qs_tree.specs.declared.build.builder.TreeBuilder.{Map}
use Rattle.qs_tree.proofs.lemmas.build.Built.{built_entries-Vector}
use Rattle.qs_tree.proofs.lemmas.Views.{built_tree-Map}

abbrev pub nodes : TreeBuilder → ℕ
nodes v = node_count (built_tree v)

abbrev pub entry_nodes : List (Key × TreeBuilder) → ℕ
entry_nodes es = entries_node_count (entries_seen es)

pub map_nodes : (m : MapBuilder) → nodes (Map m) ≡ 2 + entries_node_count (built_entries m)
map_nodes m = ap node_count (built_tree-Map m)

pub vector_nodes : (es : List (Key × TreeBuilder)) → nodes (Map (Vector es)) ≡ 2 + entry_nodes es
vector_nodes es = map_nodes (Vector es) ∙ ap (λ l. 2 + entries_node_count l) (built_entries-Vector es)
