use Rattle.qs_tree.proofs.Common.{refl, slice_get-get_or}
use Rattle.qs_tree.proofs.lemmas.tree.Places.{put_value-set, keys-put_value}
use Rattle.qs_tree.proofs.tree.entries.SortedEntries.at_mut.Goals as goal

pub invariant_of-self-lent : goal.invariant_of-self-lent
invariant_of-self-lent g c w =
    let in_range = rw (← c.self.view_is) at c.requires in
    rw (put_value-set c.self.inside.items.items c.args.at c.index_mut-item.result.now w in_range c.index_mut-item.ensures.value, keys-put_value c.self.inside.items.items c.args.at w) c.self.invariant

pub returns : goal.returns
returns g c =
    let in_range = rw (← c.self.view_is) at c.requires in (
      (refl, λ w. rw (← c.self.view_is) (put_value-set c.self.inside.items.items c.args.at c.index_mut-item.result.now w in_range c.index_mut-item.ensures.value)),
      record {
        writes_back = tt;
        value = rw (← c.self.view_is, slice_get-get_or c.self.inside.items.items c.args.at c.index_mut-item.result.now in_range, ← c.index_mut-item.ensures.value) refl;
      },
    )
