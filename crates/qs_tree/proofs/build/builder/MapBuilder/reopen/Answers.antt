use Rattle.qs_tree.proofs.Common.{sym, ap, ◌∙◌, entries_seen, as_builders}
use Rattle.qs_tree.proofs.lemmas.tree.Keys.{entries_of_map-map}
use Rattle.qs_tree.proofs.lemmas.build.Built.{built_entries-Vector, seen-builders}
use Rattle.qs_tree.proofs.build.builder.MapBuilder.reopen.Goals as goal

pub returns : goal.returns
returns c =
    built_entries-Vector c.in_ok-as_builders.field-0
    ∙ ap entries_seen (c.in_ok-as_builders.ensures ∙ ap as_builders c.into_entries.ensures)
    ∙ seen-builders c.args.map.map
    ∙ sym (entries_of_map-map c.args.map)
