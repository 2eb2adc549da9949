use Rattle.qs_tree.proofs.Common.{false, Option, Tree, add_to_leaves, leaf_of, parsed_segment_of_key, built_tree, built_entries}
use Rattle.qs_tree.proofs.lemmas.build.Turns.{gives_err, rejected_too, put_there, rejected_there}
use Rattle.qs_tree.proofs.build.add.add_at_empty.Goals as goal

pub returns-in_err-add_leaf : goal.returns-in_err-add_leaf
returns-in_err-add_leaf c =
    let f : Tree → Option Tree = add_to_leaves false (leaf_of c.args.leaf) in
    let old = built_tree c.take-node.result in
    gives_err _ _ c.from_residual.result c.in_err-add_leaf.field-0.0 _ c.from_residual.ensures.1 (λ y p. p)
    (rejected_too (f old) _ c.in_err-add_leaf.field-0.0
    (λ none. rw (← c.from-key.ensures) (rejected_there (parsed_segment_of_key c.from-key.result) f (built_entries c.args.map.now) c.take-node.ensures.ordered old c.take-node.ensures.node none))
    c.in_err-add_leaf.ensures)

pub returns : goal.returns
returns c =
    let f : Tree → Option Tree = add_to_leaves false (leaf_of c.args.leaf) in
    rw (← c.from-key.ensures) (put_there (parsed_segment_of_key c.from-key.result) f (built_entries c.args.map.now) c.take-node.ensures.ordered (built_tree c.take-node.result) c.take-node.ensures.node
    _ _ (built_tree c.add_leaf.new.node) c.in_ok-add_leaf.ensures c.take-node.ensures.rest c.in_ok-put.ensures)
