use Rattle.qs_tree.proofs.Common.{drop_of_length-le, ◌≡◌, ◌+◌, [], ◌∷◌, drop, sym, ap, ◌∙◌, arith, refl, unwrap_or, Global, BTreeMap, add, Key, TreeBuilder, is_push, leaf_of, path_of, built_tree, entries_seen, fresh, parsed_segment_of_key}
use Rattle.qs_tree.proofs.lemmas.Views.{built_tree-fresh}
use Rattle.qs_tree.proofs.lemmas.build.Turns.{below_map}
use Rattle.qs_tree.proofs.lemmas.build.Built.{at_key}
use Rattle.qs_tree.proofs.build.add.add_last_in_tree.Goals as goal

pub returns : goal.returns
returns c =
    let pair = c.take_key-key.new.self in
    let key = c.take_key-key.result in
    let es = c.args.tree.now.entries in
    let push = is_push c.args.pair.now.manner in
    let leaf = leaf_of c.args.pair.now.leaf in
    let new = c.add_here.new.node in
    let none : drop (c.args.level + 1) pair.path ≡ [] = drop_of_length-le pair.path (omega (arith, c.take_key-key.ensures.len, c.requires)) in
    let path : path_of (drop c.args.level c.args.pair.now.path) ≡ parsed_segment_of_key key ∷ [] = ap path_of c.take_key-key.ensures.key ∙ ap (λ ks. parsed_segment_of_key key ∷ path_of ks) none in
    let lent = (rw c.fresh.ensures at c.or_insert-child.ensures.value) ∙ ap (λ o. unwrap_or o fresh) c.in_ok-tree.ensures.value in
    let written = c.tree-3-1.given.1 (sym c.in_ok-tree.ensures.same_map) in
    rw path (below_map (parsed_segment_of_key key) [] push leaf (entries_seen es) _ c.add_here.result
    (at_key built_tree fresh built_tree-fresh key es c.in_ok-tree.ensures.ordered c.or_insert-child.result.now lent _ _ refl (add [] push leaf) new
    (ap entries_seen (sym (ap (λ (m : BTreeMap Key TreeBuilder Global). m.entries) written ∙ c.in_ok-tree.ensures.update.1 new)))
    c.add_here.result (rw (c.take_key-key.ensures.manner, c.take_key-key.ensures.leaf) at c.add_here.ensures.added)))
