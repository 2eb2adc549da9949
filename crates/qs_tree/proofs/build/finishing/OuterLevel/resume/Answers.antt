use Rattle.qs_tree.proofs.Common.{mapping, Map, entries_of_map, left_pairs}
use Rattle.qs_tree.proofs.lemmas.Views.{tree_of-Map}
use Rattle.qs_tree.proofs.lemmas.build.Levels.{may_push, key_trees-push}
use Rattle.qs_tree.proofs.build.finishing.OuterLevel.resume.Goals as goal

pub push-requires : goal.push-requires
push-requires c =
    let w = c.args.self in
    may_push w.level.done w.key (mapping (entries_of_map c.args.map)) (left_pairs w.level) c.requires

pub returns-clause-pairs : goal.returns-clause-pairs
returns-clause-pairs c =
    let w = c.args.self in
    rw (c.in_ok-push.ensures.ok, key_trees-push w.level.done w.key (Map c.args.map) (left_pairs w.level), tree_of-Map c.args.map)
