use Rattle.qs_tree.proofs.Common.{◌≡◌, ◌+◌, Some, drop, sym, ap, ◌∙◌, Value, built_tree, fresh, is_push, leaf_of, path_of}
use Rattle.qs_tree.proofs.lemmas.Views.{built_tree-Value, built_tree-fresh}
use Rattle.qs_tree.proofs.lemmas.build.Chains.{added_at, added_new, same_head}
use Rattle.qs_tree.proofs.build.add.add_in_tree.Goals as goal

pub returns-in-Some : goal.returns-in-Some
returns-in-Some c =
    let pair = c.args.pair.now in
    let written = (c.get_mut.follows.holds c.add_to_child.new.child).0 in
    rw (c.key.ensures.key, written)
    (added_at built_tree fresh built_tree-fresh c.key.result.now c.args.tree.now.entries c.in-Some.ensures.ordered (path_of (drop (c.args.level + 1) pair.path)) (is_push pair.manner) (leaf_of pair.leaf)
    c.in-Some.child.now c.add_to_child.new.child (sym c.in-Some.ensures.value) pair c.add_to_child.new.pair c.add_to_child.result c.add_to_child.ensures)

pub returns-in_ok-insert-in-None : goal.returns-in_ok-insert-in-None
returns-in_ok-insert-in-None c =
    let pair = c.args.pair.now in
    let taken = c.take_key-key.new.self in
    let key : c.key.result.now ≡ c.take_key-key.result = same_head _ _ _ _ (sym c.key.ensures.key ∙ c.take_key-key.ensures.key) in
    let missing = rw key at c.in-None.ensures.value in
    let alone = rw (c.take_key-key.ensures.manner, c.take_key-key.ensures.leaf) at c.in_ok-value-in-None.ensures in
    rw (c.take_key-key.ensures.key, rw c.get_mut.follows.holds-at-none at c.in_ok-insert-in-None.ensures)
    (added_new built_tree fresh built_tree-fresh c.take_key-key.result c.args.tree.now.entries c.in-None.ensures.ordered (path_of (drop (c.args.level + 1) taken.path)) (is_push pair.manner) (leaf_of pair.leaf)
    (sym missing) (Value c.in_ok-value-in-None.value) (alone ∙ ap Some (sym (built_tree-Value c.in_ok-value-in-None.value))))
