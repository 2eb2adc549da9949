use Rattle.qs_tree.proofs.Common.{sym, ap, ◌∙◌, entries_of_leaves}
use Rattle.qs_tree.proofs.lemmas.tree.Keys.{entries_of_map-map}
use Rattle.qs_tree.proofs.lemmas.build.Unsorted.{distinct_leaves}
use Rattle.qs_tree.proofs.build.unsorted.Unsorted.of.Goals as goal

pub returns : goal.returns
returns c =
    let items = c.into_items.ensures in
    ap entries_of_leaves (items.all ∙ c.into_entries.ensures) ∙ distinct_leaves c.args.map.map (rw c.into_entries.ensures at items.sorted) c.requires ∙ sym (entries_of_map-map c.args.map)
