use Rattle.qs_tree.proofs.Common.{tree_of}
use Rattle.qs_tree.proofs.lemmas.Views.{built_tree-Value}
use Rattle.qs_tree.proofs.lemmas.tree.Keys.{entries_of_map-map}
use Rattle.qs_tree.proofs.lemmas.build.Built.{inserted}
use Rattle.qs_tree.proofs.build.descent.put_in_map.Goals as goal

pub returns-in_ok-put_at-in-Value : goal.returns-in_ok-put_at-in-Value
returns-in_ok-put_at-in-Value c =
    let new = c.put_at.new.self in
    rw (c.in-Value.is, built_tree-Value c.in-Value.value, entries_of_map-map c.args.map, entries_of_map-map (record { map = new }), c.in_ok-put_at-in-Value.ensures)
    (inserted tree_of c.args.key c.args.map.map c.in-Value.value)
