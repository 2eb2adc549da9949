use Rattle.qs_tree.proofs.Common.{sym, ap, ◌∙◌, IfOk-weaker, built_entries, entries_seen}
use Rattle.qs_tree.proofs.lemmas.build.Built.{built_entries-Tree}
use Rattle.qs_tree.proofs.build.builder.MapBuilder.into_entries.Goals as goal

pub returns-in-Tree : goal.returns-in-Tree
returns-in-Tree c =
    IfOk-weaker c.into_vector.result _ _ (λ v same. ap entries_seen same ∙ sym (ap built_entries c.in-Tree.is ∙ built_entries-Tree c.in-Tree.map)) c.into_vector.ensures
