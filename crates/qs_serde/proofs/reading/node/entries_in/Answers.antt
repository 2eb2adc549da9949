use Rattle.qs_data.proofs.Common.{true, ◌&&◌, sym, ap, ◌∙◌, false≢true, tree_of, entries_of_map, is_text}
use Rattle.qs_data.proofs.lemmas.read.Entries.{keys_bad}
use Rattle.qs_data.proofs.lemmas.read.Numbers.{empty_text}
use Rattle.qs_tree.proofs.lemmas.Views.{tree_of-Map}
use Rattle.qs_serde.proofs.reading.node.entries_in.Goals as goal

pub returns-in-Map : goal.returns-in-Map
returns-in-Map c h = ap is_text (ap tree_of c.in-Map.is ∙ tree_of-Map c.in-Map.map) ∙ keys_bad (entries_of_map c.in-Map.map) h

pub returns-in-String : goal.returns-in-String
returns-in-String c h = absurd (false≢true (sym h ∙ ap (λ b. b && true) empty_text))
