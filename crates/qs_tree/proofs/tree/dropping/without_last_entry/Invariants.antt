-- The entries get fewer.
use Rattle.std.proofs.Common.{◌≤◌, length}
use Rattle.qs_tree.proofs.lemmas.tree.NodeCounts.{entry_nodes}
use Rattle.qs_tree.proofs.tree.dropping.without_last_entry.Given as goal

abbrev pub invariant-loop-last : goal.invariant-loop-last
invariant-loop-last l = entry_nodes l.entries ≤ entry_nodes l.fn.map.map

abbrev pub decreases-loop-last : goal.decreases-loop-last
decreases-loop-last l = length l.entries
