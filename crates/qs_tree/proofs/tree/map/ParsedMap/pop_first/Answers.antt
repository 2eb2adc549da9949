use Rattle.qs_tree.proofs.Common.{tree_of}
use Rattle.qs_tree.proofs.lemmas.tree.Keys.{entries_of_map-map}
use Rattle.qs_tree.proofs.lemmas.tree.Ordered.{ordered_seen}
use Rattle.qs_tree.proofs.tree.map.ParsedMap.pop_first.Goals as goal

pub returns-clause-ordered : goal.returns-clause-ordered
returns-clause-ordered c = rw entries_of_map-map (ordered_seen tree_of c.args.self.now.map c.remove_at.ensures.sorted)
