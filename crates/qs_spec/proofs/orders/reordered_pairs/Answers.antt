use Rattle.qs_spec.proofs.Reorder.{swaps_of, events_swaps, node_reordered}
use Rattle.qs_spec.proofs.orders.reordered_pairs.Goals as goal

pub returns-clause-histories : goal.returns-clause-histories
returns-clause-histories c = λ ps qs h path. events_swaps path (swaps_of ps qs h)

pub returns-clause-nodes : goal.returns-clause-nodes
returns-clause-nodes c = node_reordered
