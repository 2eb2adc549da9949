use Rattle.qs_tree.proofs.Common.{◌∙◌, Some, Ok, false, refl, sym, ap, unwrap_or, same_Some, add_to_leaves, Uninitialized, leaf_of, entries_held, key_cmp, tree_of}
use Rattle.qs_tree.proofs.lemmas.Views.{tree_of-Uninitialized}
use Rattle.qs_tree.proofs.lemmas.tree.Places.{hit_value, hit_insert, gap_lookup}
use Rattle.qs_tree.proofs.lemmas.build.Built.{at_key}
use Rattle.qs_tree.proofs.build.add_to_value.add_leaf_at.Goals as goal

pub returns-in-Ok : goal.returns-in-Ok
returns-in-Ok c =
    let es = c.args.entries.now in
    let new = c.add_to_leaves.new.value in
    let hit = rw (c.in-Ok.is, c.as_slice.ensures.all) at c.place_among.ensures in
    at_key tree_of Uninitialized tree_of-Uninitialized c.args.key es c.as_slice.ensures.sorted c.at_mut.result.now
    (same_Some _ _ (sym c.at_mut.ensures.value ∙ hit_value key_cmp c.args.key es c.in-Ok.at Uninitialized hit)) _ _ refl
    (add_to_leaves false (leaf_of c.args.leaf)) new (ap entries_held (hit_insert key_cmp c.args.key es c.in-Ok.at new hit)) c.add_to_leaves.result c.add_to_leaves.ensures.added

pub returns-in_ok-insert_at-in-Err : goal.returns-in_ok-insert_at-in-Err
returns-in_ok-insert_at-in-Err c =
    let es = c.args.entries.now in
    let gap = rw (c.in-Err.is, c.as_slice.ensures.all) at c.place_among.ensures in
    rw c.in_ok-insert_at-in-Err.ensures.ok
    (at_key tree_of Uninitialized tree_of-Uninitialized c.args.key es c.as_slice.ensures.sorted Uninitialized (sym (ap (λ o. unwrap_or o Uninitialized) (gap_lookup key_cmp c.args.key es c.in-Err.at gap))) _ _ refl
    (add_to_leaves false (leaf_of c.args.leaf)) c.into_value.result refl (Ok (tt {0})) (rw tree_of-Uninitialized (ap Some (sym c.into_value.ensures))))
