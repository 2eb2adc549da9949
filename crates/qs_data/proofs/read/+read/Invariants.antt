use Rattle.qs_data.proofs.Common.{◌≡◌, map, drop, reads, read_each, read_pairs, reads_names, reads_places, reads_tuple, tree_of, items_from, entries_of_map, data_of, named, pair_of, fields_in, key_shape_of, shape_of, shapes_in, items_view, entries_view, entries_after}
use Rattle.qs_data.proofs.lemmas.read.Steps.{before}
use Rattle.qs_data.proofs.read.+read.Given as goal

abbrev pub invariant-fields::read_names-loop-field : goal.invariant-fields::read_names-loop-field
invariant-fields::read_names-loop-field l =
    let es = entries_view l.entries in
    reads_names l.reader.reject_duplicates (fields_in l.fields.items) es ≡ before (map (named data_of) l.members.items) (reads_names l.reader.reject_duplicates (fields_in (drop l.field-index l.field-items)) es)

abbrev pub invariant-fields::read_places-loop-i : goal.invariant-fields::read_places-loop-i
invariant-fields::read_places-loop-i l =
    reads_places l.reader.reject_duplicates (fields_in l.fields.items) (items_from (map tree_of l.items))
    ≡ before (map (named data_of) l.members.items) (reads_places l.reader.reject_duplicates (fields_in (drop l.i l.field-items)) (items_from (map tree_of (drop l.i l.items))))

abbrev pub invariant-lists::read_each-loop-i : goal.invariant-lists::read_each-loop-i
invariant-lists::read_each-loop-i l =
    let r = reads l.reader.reject_duplicates (shape_of l.part) in
    read_each r (items_view l.items) ≡ before (map data_of l.values.items) (read_each r (drop l.i (items_view l.items)))

abbrev pub invariant-lists::read_parts-loop-i : goal.invariant-lists::read_parts-loop-i
invariant-lists::read_parts-loop-i l =
    reads_tuple l.reader.reject_duplicates (shapes_in l.parts.items) (items_view l.items)
    ≡ before (map data_of l.values.items) (reads_tuple l.reader.reject_duplicates (shapes_in (drop l.i l.part-items)) (drop l.i (items_view l.items)))

abbrev pub invariant-maps::read_pairs-loop-i : goal.invariant-maps::read_pairs-loop-i
invariant-maps::read_pairs-loop-i l =
    let k = key_shape_of l.key_shape in
    let r = reads l.reader.reject_duplicates (shape_of l.part) in
    let es = entries_of_map l.entries in
    read_pairs k r es ≡ before (map pair_of l.pairs.items) (read_pairs k r (entries_after l.i es))
