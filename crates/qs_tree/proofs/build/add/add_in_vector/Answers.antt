use Rattle.qs_tree.proofs.Common.{◌≡◌, ◌+◌, Some, drop, sym, ap, ◌∙◌, key_cmp, Value, built_tree, fresh, is_push, leaf_of, path_of}
use Rattle.qs_tree.proofs.lemmas.Views.{built_tree-Value, built_tree-fresh}
use Rattle.qs_tree.proofs.lemmas.tree.Places.{gap_lookup}
use Rattle.qs_tree.proofs.lemmas.build.Chains.{added_below, added_new, same_head}
use Rattle.qs_tree.proofs.build.add.add_in_vector.Goals as goal

pub returns-in-Ok : goal.returns-in-Ok
returns-in-Ok c =
    let pair = c.args.pair.now in
    let found = rw (c.in-Ok.is, c.as_slice.ensures.all) at c.place_among-place.ensures in
    rw c.key.ensures.key
    (added_below built_tree fresh built_tree-fresh c.key.result.now c.args.entries.now c.as_slice.ensures.sorted (path_of (drop (c.args.level + 1) pair.path)) (is_push pair.manner) (leaf_of pair.leaf)
    c.in-Ok.at found c.at_mut.result.now c.add_to_child.new.child c.at_mut.ensures.value pair c.add_to_child.new.pair c.add_to_child.result c.add_to_child.ensures)

pub returns-in_ok-insert_at-in-Err : goal.returns-in_ok-insert_at-in-Err
returns-in_ok-insert_at-in-Err c =
    let pair = c.args.pair.now in
    let es = c.args.entries.now in
    let taken = c.take_key-key.new.self in
    let key : c.key.result.now ≡ c.take_key-key.result = same_head _ _ _ _ (sym c.key.ensures.key ∙ c.take_key-key.ensures.key) in
    let gap = rw (c.in-Err.is, c.as_slice.ensures.all, key) at c.place_among-place.ensures in
    let alone = rw (c.take_key-key.ensures.manner, c.take_key-key.ensures.leaf) at c.in_ok-value-in-Err.ensures in
    rw (c.take_key-key.ensures.key, c.in_ok-insert_at-in-Err.ensures.ok)
    (added_new built_tree fresh built_tree-fresh c.take_key-key.result es c.as_slice.ensures.sorted (path_of (drop (c.args.level + 1) taken.path)) (is_push pair.manner) (leaf_of pair.leaf)
    (gap_lookup key_cmp c.take_key-key.result es c.in-Err.at gap) (Value c.in_ok-value-in-Err.value) (alone ∙ ap Some (sym (built_tree-Value c.in_ok-value-in-Err.value))))
