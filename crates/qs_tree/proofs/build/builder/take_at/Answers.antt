use Rattle.qs_tree.proofs.Common.{built_tree, fresh}
use Rattle.qs_tree.proofs.lemmas.Views.{built_tree-fresh}
use Rattle.qs_tree.proofs.lemmas.build.Built.{taken_hit, taken_gap}
use Rattle.qs_tree.proofs.build.builder.take_at.Goals as goal

pub replace-requires : goal.replace-requires
replace-requires c = let found = rw (c.in-Ok.is, c.as_slice.ensures.all) at c.place_among.ensures in found.in_range

pub returns-in-Ok : goal.returns-in-Ok
returns-in-Ok c =
    let found = rw (c.in-Ok.is, c.as_slice.ensures.all) at c.place_among.ensures in
    rw c.replace.ensures.new (taken_hit built_tree c.args.key.now c.args.entries.now c.in-Ok.at found c.as_slice.ensures.sorted c.replace.result c.fresh.result c.replace.ensures.old)

pub returns-in-Err : goal.returns-in-Err
returns-in-Err c =
    let absent = rw (c.in-Err.is, c.as_slice.ensures.all) at c.place_among.ensures in
    rw c.fresh-in-Err.ensures (taken_gap built_tree c.args.key.now c.args.entries.now c.in-Err.field-0 fresh built_tree-fresh absent c.as_slice.ensures.sorted)
