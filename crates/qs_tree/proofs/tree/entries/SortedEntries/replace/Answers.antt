use Rattle.qs_tree.proofs.Common.{Some, sym, ap, slice_get-get_or}
use Rattle.qs_tree.proofs.lemmas.tree.Places.{put_value-set, keys-put_value}
use Rattle.qs_tree.proofs.tree.entries.SortedEntries.replace.Goals as goal

pub invariant_of-self : goal.invariant_of-self
invariant_of-self g c =
    let in_range = rw (← c.self.view_is) at c.requires in
    let same = put_value-set c.self.inside.items.items c.args.at c.index_mut.result.now c.replace.new.dest in_range c.index_mut.ensures.value in
    rw (same, keys-put_value c.self.inside.items.items c.args.at c.replace.new.dest) c.self.invariant

pub returns-clause-old : goal.returns-clause-old
returns-clause-old g c =
    let in_range = rw (← c.self.view_is) at c.requires in
    rw (← c.self.view_is, slice_get-get_or c.self.inside.items.items c.args.at c.index_mut.result.now in_range, ← c.index_mut.ensures.value) (ap Some (sym c.replace.ensures.value))

pub returns-clause-new : goal.returns-clause-new
returns-clause-new g c =
    let in_range = rw (← c.self.view_is) at c.requires in
    rw (c.replace.ensures.after, ← c.self.view_is) (put_value-set c.self.inside.items.items c.args.at c.index_mut.result.now c.args.value in_range c.index_mut.ensures.value)
