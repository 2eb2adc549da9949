use Rattle.qs_tree.proofs.Common.{tree_of, Uninitialized}
use Rattle.qs_tree.proofs.lemmas.Views.{tree_of-Uninitialized}
use Rattle.qs_tree.proofs.lemmas.tree.Keys.{entries_of_map-map}
use Rattle.qs_tree.proofs.lemmas.build.Built.{taken_hit, taken_gap}
use Rattle.qs_tree.proofs.build.descent.take_value.Goals as goal

pub returns-in-Ok : goal.returns-in-Ok
returns-in-Ok c =
    let es = c.args.map.now.map in
    let new = c.replace.new.self in
    let found = rw (c.in-Ok.is, c.as_slice.ensures.all) at c.place_among.ensures in
    rw (entries_of_map-map c.args.map.now, entries_of_map-map (record { map = new }), c.replace.ensures.new)
    (taken_hit tree_of c.args.key.now es c.in-Ok.at found c.as_slice.ensures.sorted c.replace.result Uninitialized c.replace.ensures.old)

pub returns-in-Err : goal.returns-in-Err
returns-in-Err c =
    let es = c.args.map.now.map in
    let absent = rw (c.in-Err.is, c.as_slice.ensures.all) at c.place_among.ensures in
    rw (entries_of_map-map c.args.map.now) (taken_gap tree_of c.args.key.now es c.in-Err.field-0 Uninitialized tree_of-Uninitialized absent c.as_slice.ensures.sorted)
