use Rattle.qs_tree.proofs.Common.{ap, Some, sym, slice_get-get_or}
use Rattle.qs_tree.proofs.lemmas.tree.Places.{sorted_remove}
use Rattle.qs_tree.proofs.tree.entries.SortedEntries.remove_at.Goals as goal

pub invariant_of-self : goal.invariant_of-self
invariant_of-self g c = rw c.remove.ensures.items (sorted_remove g.K.Ord.cmp c.self.inside.items.items c.args.at c.self.invariant)

pub returns-clause-entry : goal.returns-clause-entry
returns-clause-entry g c =
    let in_range = rw (← c.self.view_is) at c.requires in
    rw (← c.self.view_is, slice_get-get_or c.self.inside.items.items c.args.at c.remove.result in_range) (ap Some (sym c.remove.ensures.value))

pub returns-clause-sorted : goal.returns-clause-sorted
returns-clause-sorted g c = rw (← c.self.view_is) c.self.invariant
