use Rattle.qs_tree.proofs.Common.{built_tree, open_entries}
use Rattle.qs_tree.proofs.lemmas.build.Descending.{opened}
use Rattle.qs_tree.proofs.build.descent.ParentMap.open.Goals as goal

pub returns : goal.returns
returns c =
    opened (record { map = c.take.new.self; key = c.args.key }) (built_tree c.args.node.now) (built_tree c.take.result)
    (open_entries c.in_ok-map.map) (rw c.replace.ensures.value at c.in_ok-map.ensures) c.take.ensures
