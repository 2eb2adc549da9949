use Rattle.qs_tree.proofs.Common.{built_tree}
use Rattle.qs_tree.proofs.lemmas.build.Built.{inserted}
use Rattle.qs_tree.proofs.build.builder.put_below.Goals as goal

pub returns : goal.returns
returns c = rw c.in_ok-insert.ensures (inserted built_tree c.args.key c.args.map.now.entries c.args.node)
