use Rattle.qs_tree.proofs.Common.{drop_of_length-le, ◌≡◌, ◌+◌, ◌∷◌, [], drop, ap, ◌∙◌, arith, mapping, parsed_segment_of_key, path_of, option_map}
use Rattle.qs_tree.proofs.build.add.add_unsorted.Goals as goal

pub returns : goal.returns
returns c =
    let pair = c.take_key-key.new.self in
    let key = c.take_key-key.result in
    let none : drop (c.args.level + 1) pair.path ≡ [] = drop_of_length-le pair.path (omega (arith, c.take_key-key.ensures.len, c.requires.one)) in
    let path : path_of (drop c.args.level c.args.pair.now.path) ≡ parsed_segment_of_key key ∷ [] = ap path_of c.take_key-key.ensures.key ∙ ap (λ ks. parsed_segment_of_key key ∷ path_of ks) none in
    rw (path, c.requires.assigned) (ap (option_map mapping) (rw (c.take.ensures, c.take_key-key.ensures.leaf) at c.in_ok-push.ensures.here))
