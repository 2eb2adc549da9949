use Rattle.qs_tree.proofs.Common.{◌≡◌, Some, None, ap, rules, ◌∙◌, option_map, segment_of_key, value_at_key, built_tree, entries_seen}
use Rattle.qs_tree.proofs.lemmas.tree.Keys.{seen-lookup}
use Rattle.qs_tree.proofs.lemmas.tree.Ordered.{ordered_seen}
use Rattle.qs_tree.proofs.lemmas.Views.{built_tree-fresh}
use Rattle.qs_tree.proofs.lemmas.build.Built.{put_again}
use Rattle.qs_tree.proofs.build.builder.take_below.Goals as goal

pub returns-in-Some : goal.returns-in-Some
returns-in-Some c =
    let es = c.args.map.now.entries in
    let found : Some (built_tree c.in-Some.node.now) ≡ value_at_key (segment_of_key c.args.key.now) (entries_seen es) =
    ap (option_map built_tree) c.in-Some.ensures.value ∙ seen-lookup built_tree c.args.key.now es in
    let written = (c.get_mut.follows.holds c.replace.new.dest).0 in
    record {
      node = rw (c.replace.ensures.value, ← found);
      rest = λ u. rw written (put_again built_tree c.args.key.now es c.replace.new.dest u c.in-Some.ensures.ordered);
      ordered = ordered_seen built_tree es c.in-Some.ensures.ordered;
    }

pub returns-in-None : goal.returns-in-None
returns-in-None c =
    let es = c.args.map.now.entries in
    let missing : None ≡ value_at_key (segment_of_key c.args.key.now) (entries_seen es) =
    ap (option_map built_tree) c.in-None.ensures.value ∙ seen-lookup built_tree c.args.key.now es in
    let kept = c.get_mut.follows.holds-at-none in
    record { node = rw (c.fresh-in-None.ensures, built_tree-fresh, ← missing); rest = λ u. search rules; ordered = ordered_seen built_tree es c.in-None.ensures.ordered }
