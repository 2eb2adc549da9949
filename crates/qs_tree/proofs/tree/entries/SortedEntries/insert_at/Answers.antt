use Rattle.std.proofs.Common.{sym}
use Rattle.qs_tree.proofs.lemmas.tree.Places.{sorted_insert, gap_insert}
use Rattle.qs_tree.proofs.tree.entries.SortedEntries.insert_at.Goals as goal

pub invariant_of-self-2 : goal.invariant_of-self-2
invariant_of-self-2 g c =
    let gap = rw (← c.self.view_is) at c.requires in
    rw (c.insert_reserved.ensures, c.in_ok-reserve_one.ensures.items) (sorted_insert g.K.Ord.cmp g.met.K.Ord.total c.args.key c.args.value c.self.inside.items.items c.args.at gap c.self.invariant)

pub returns-clause-ok : goal.returns-clause-ok
returns-clause-ok g c = rw (c.insert_reserved.ensures, c.in_ok-reserve_one.ensures.items, c.self.view_is) (sym (gap_insert g.K.Ord.cmp c.args.key c.args.self.now c.args.at c.args.value c.requires))
