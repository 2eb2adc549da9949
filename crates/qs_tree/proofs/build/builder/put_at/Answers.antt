use Rattle.qs_tree.proofs.Common.{built_tree}
use Rattle.qs_tree.proofs.lemmas.build.Built.{inserted}
use Rattle.qs_tree.proofs.build.builder.put_at.Goals as goal

pub returns : goal.returns
returns c = rw c.in_ok-put_at.ensures (inserted built_tree c.args.key c.args.entries.now c.args.node)
