use Rattle.qs_tree.proofs.Common.{◌≡◌, ◌+◌, ◌∷◌, Ok, true, drop, sym, ◌∙◌, insert_entry, key_cmp, put_value, parsed_segment_of_key, tree_of, is_push, leaf_of, path_of, Uninitialized}
use Rattle.qs_tree.proofs.lemmas.Views.{tree_of-Uninitialized}
use Rattle.qs_tree.proofs.lemmas.tree.Places.{gap_lookup}
use Rattle.qs_tree.proofs.lemmas.build.Chains.{added_below, added_new, in_map, same_head}
use Rattle.qs_tree.proofs.build.add_to_value.+add_to_value.Goals as goal

pub add_in_map-returns-else-len-level-gt-NEAR : goal.add_in_map-returns-else-len-level-gt-NEAR
add_in_map-returns-else-len-level-gt-NEAR t c =
    let pair = c.args.pair.now in
    let es = c.args.map.now.map in
    let path = path_of (drop (c.args.level + 1) pair.path) in
    let found = rw (c.in-Ok.is, c.as_slice.ensures.all) at c.place_among-place.ensures in
    rw c.key.ensures.key
    (in_map c.args.map.now (record { map = put_value es c.in-Ok.at c.add_to_value.new.value }) (parsed_segment_of_key c.key.result.now ∷ path) (is_push pair.manner) (leaf_of pair.leaf) pair c.add_to_value.new.pair c.add_to_value.result
    (added_below tree_of Uninitialized tree_of-Uninitialized c.key.result.now es c.as_slice.ensures.sorted path (is_push pair.manner) (leaf_of pair.leaf)
    c.in-Ok.at found c.at_mut.result.now c.add_to_value.new.value c.at_mut.ensures.value pair c.add_to_value.new.pair c.add_to_value.result c.add_to_value.ensures))

pub add_in_map-returns-in_ok-insert_at-in-Err : goal.add_in_map-returns-in_ok-insert_at-in-Err
add_in_map-returns-in_ok-insert_at-in-Err t c =
    let pair = c.args.pair.now in
    let es = c.args.map.now.map in
    let taken = c.take_key-key.new.self in
    let path = path_of (drop (c.args.level + 1) taken.path) in
    let key : c.key.result.now ≡ c.take_key-key.result = same_head _ _ _ _ (sym c.key.ensures.key ∙ c.take_key-key.ensures.key) in
    let gap = rw (c.in-Err.is, c.as_slice.ensures.all, key) at c.place_among-place.ensures in
    let alone = rw (c.take_key-key.ensures.manner, c.take_key-key.ensures.leaf) at c.in_ok-value-in-Err.ensures in
    rw (c.take_key-key.ensures.key, c.in_ok-insert_at-in-Err.ensures.ok)
    (in_map c.args.map.now (record { map = insert_entry key_cmp es c.take_key-key.result c.in_ok-value-in-Err.value }) (parsed_segment_of_key c.take_key-key.result ∷ path) (is_push pair.manner) (leaf_of pair.leaf) pair taken (Ok true)
    (added_new tree_of Uninitialized tree_of-Uninitialized c.take_key-key.result es c.as_slice.ensures.sorted path (is_push pair.manner) (leaf_of pair.leaf)
    (gap_lookup key_cmp c.take_key-key.result es c.in-Err.at gap) c.in_ok-value-in-Err.value alone))
