use Rattle.qs_tree.proofs.Common.{sym, ◌∙◌}
use Rattle.qs_tree.proofs.lemmas.tree.Places.{hit_insert}
use Rattle.qs_tree.proofs.tree.entries.SortedEntries.put_at.Goals as goal

pub returns-in-Ok : goal.returns-in-Ok
returns-in-Ok g c =
    let found = rw c.in-Ok.is at c.requires in
    c.replace.ensures.new ∙ sym (hit_insert g.K.Ord.cmp c.args.key c.args.self.now c.in-Ok.at c.args.value found)
