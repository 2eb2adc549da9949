use Rattle.qs_tree.proofs.Common.{Bor, ParsedValue, ap, sym, ◌∙◌, option_map, segment_of_key, tree_of, value_at_key}
use Rattle.qs_tree.proofs.lemmas.tree.Keys.{mapped_twice, seen-lookup, entries_of_map-map, map_pairs-map, length-pairs_view}
use Rattle.qs_tree.proofs.lemmas.tree.Ordered.{ordered_seen}
use Rattle.qs_tree.proofs.tree.map.ParsedMap.get_with.Goals as goal

pub returns-clause-value : goal.returns-clause-value
returns-clause-value c =
    mapped_twice (λ (v : Bor ParsedValue). v.now) tree_of c.lookup.result
    ∙ ap (option_map tree_of) c.lookup.ensures.value
    ∙ rw c.as_slice.ensures.all (seen-lookup tree_of c.args.key.now c.args.self.now.map)
    ∙ ap (value_at_key (segment_of_key c.args.key.now)) (sym (entries_of_map-map c.args.self.now))

pub returns-clause-ordered : goal.returns-clause-ordered
returns-clause-ordered c = rw entries_of_map-map (ordered_seen tree_of c.args.self.now.map c.as_slice.ensures.sorted)

pub returns-clause-most : goal.returns-clause-most
returns-clause-most c = rw (map_pairs-map, length-pairs_view, ← c.as_slice.ensures.all) c.lookup.ensures.most

pub returns-clause-least : goal.returns-clause-least
returns-clause-least c = rw (map_pairs-map, length-pairs_view, ← c.as_slice.ensures.all) c.lookup.ensures.least
