use Rattle.qs_tree.proofs.Common.{sym, ap, ◌∙◌, entries_held}
use Rattle.qs_tree.proofs.lemmas.build.Unsorted.{distinct_leaves, moved_leaves}
use Rattle.qs_tree.proofs.build.unsorted.Unsorted.into_entries.Goals as goal

pub returns-in-Ok : goal.returns-in-Ok
returns-in-Ok c =
    let sorted = c.in_ok-sort.ensures in
    let leaves = moved_leaves c.args.self.leaves.items _ sorted.permutation c.args.self.are_leaves in
    ap entries_held c.in-Ok.ensures.all ∙ sym (distinct_leaves _ (rw c.in-Ok.ensures.all at c.in-Ok.ensures.sorted) leaves) ∙ sorted.same

pub returns-in-Err : goal.returns-in-Err
returns-in-Err c = rw (← c.in_ok-sort.ensures.same, ← c.in-Err.ensures.all) c.merge.ensures
