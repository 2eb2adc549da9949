-- Nodes as trees.
use Rattle.qs_tree.proofs.Common.{◌≡◌, sym, ap, ◌∙◌, mapping, ParsedMap, ParsedValue, Map, tree_of, entries_of_map}
use Rattle.qs_tree.proofs.lemmas.tree.Keys.{Held, entries_view, entries_of_map-map}
use Rattle.qs_tree.proofs.lemmas.Views.{tree_of-Map}

-- the entries of a map
pub entries_in : (m : ParsedMap) (es : Held) → es ≡ m.map → entries_view es ≡ entries_of_map m
entries_in m es e = ap entries_view e ∙ sym (entries_of_map-map m)

pub node_with : (v : ParsedValue) (m : ParsedMap) (es : Held) → v ≡ Map m → es ≡ m.map → tree_of v ≡ mapping (entries_view es)
node_with v m es is e = ap tree_of is ∙ tree_of-Map m ∙ ap mapping (sym (entries_in m es e))
