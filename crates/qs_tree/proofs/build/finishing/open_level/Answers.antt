use Rattle.qs_tree.proofs.Common.{◌∙◌, built_entries}
use Rattle.qs_tree.proofs.lemmas.build.Levels.{is_opened}
use Rattle.qs_tree.proofs.build.finishing.open_level.Goals as goal

pub returns : goal.returns
returns c =
    is_opened _ c.in_ok-entries.entries (built_entries c.args.map) c.in_ok-done.ensures (c.into_iter.ensures.rest ∙ c.into_items.ensures.all) c.in_ok-entries.ensures c.into_items.ensures.sorted
