use Rattle.qs_tree.proofs.Common.{tree_of}
use Rattle.qs_tree.proofs.lemmas.tree.Keys.{entries_of_map-map, map_pairs-map, pair_at}
use Rattle.qs_tree.proofs.lemmas.tree.Ordered.{ordered_seen}
use Rattle.qs_tree.proofs.tree.map.ParsedMap.at.Goals as goal

pub returns-clause-value : goal.returns-clause-value
returns-clause-value c = rw map_pairs-map (pair_at c.at.result c.args.self.now.map c.args.at c.at.ensures.value)

pub returns-clause-ordered : goal.returns-clause-ordered
returns-clause-ordered c = rw entries_of_map-map (ordered_seen tree_of c.args.self.now.map c.at.ensures.sorted)
