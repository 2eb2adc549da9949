use Rattle.qs_tree.proofs.Common.{ap₂, ◌∙◌, entries_same}
use Rattle.qs_tree.proofs.lemmas.tree.Nodes.{entries_in}
use Rattle.qs_tree.proofs.tree.map.ParsedMapPartialEq.eq.Goals as goal

pub returns : goal.returns
returns c = c.same_entries.ensures ∙ ap₂ entries_same (entries_in _ _ c.as_slice.ensures.all) (entries_in _ _ c.as_slice-2.ensures.all)
