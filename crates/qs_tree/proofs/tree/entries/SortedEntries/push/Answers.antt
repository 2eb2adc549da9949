use Rattle.std.proofs.Common.{[], ◌∷◌}
use Rattle.qs_tree.proofs.lemmas.tree.Places.{keys-append}
use Rattle.qs_tree.proofs.tree.entries.SortedEntries.push.Goals as goal

pub invariant_of-self-2 : goal.invariant_of-self-2
invariant_of-self-2 g c = rw (c.push_reserved.ensures.items, c.in_ok-reserve_one.ensures.items, keys-append c.self.inside.items.items ((c.args.key, c.args.value) ∷ []), c.self.view_is) c.requires
