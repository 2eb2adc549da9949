use Rattle.qs_tree.proofs.Common.{◌∙◌, key_cmp, tree_of}
use Rattle.qs_tree.proofs.lemmas.tree.Places.{hit_lookup, gap_lookup, hit_remove, gap_remove}
use Rattle.qs_tree.proofs.lemmas.tree.Keys.{seen-lookup, view-remove_entry, entries_of_map-map}
use Rattle.qs_tree.proofs.lemmas.tree.Ordered.{ordered_seen}
use Rattle.qs_tree.proofs.tree.map.ParsedMap.remove.Goals as goal

pub returns-in-Ok-clause-value : goal.returns-in-Ok-clause-value
returns-in-Ok-clause-value c =
    let found = rw (c.in-Ok.is, c.as_slice.ensures.all) at c.search.ensures.found in
    let es = c.args.self.now.map in
    rw (entries_of_map-map, ← seen-lookup tree_of c.args.key.now es, hit_lookup key_cmp c.args.key.now es c.in-Ok.at found, c.remove_at.ensures.entry)

pub returns-in-Ok-clause-rest : goal.returns-in-Ok-clause-rest
returns-in-Ok-clause-rest c =
    let found = rw (c.in-Ok.is, c.as_slice.ensures.all) at c.search.ensures.found in
    let es = c.args.self.now.map in
    entries_of_map-map _ ∙ rw (c.remove_at.ensures.rest, ← hit_remove key_cmp c.args.key.now es c.in-Ok.at found, entries_of_map-map c.args.self.now) (view-remove_entry c.args.key.now es)

pub returns-in-Err-clause-value : goal.returns-in-Err-clause-value
returns-in-Err-clause-value c =
    let absent = rw (c.in-Err.is, c.as_slice.ensures.all) at c.search.ensures.absent in
    let es = c.args.self.now.map in
    rw (entries_of_map-map, ← seen-lookup tree_of c.args.key.now es, gap_lookup key_cmp c.args.key.now es c.in-Err.field-0 absent)

pub returns-in-Err-clause-rest : goal.returns-in-Err-clause-rest
returns-in-Err-clause-rest c =
    let absent = rw (c.in-Err.is, c.as_slice.ensures.all) at c.search.ensures.absent in
    let es = c.args.self.now.map in
    rw (entries_of_map-map, ← view-remove_entry c.args.key.now es, gap_remove key_cmp c.args.key.now es c.in-Err.field-0 absent)

pub returns-in-Ok-clause-ordered : goal.returns-in-Ok-clause-ordered
returns-in-Ok-clause-ordered c = rw entries_of_map-map (ordered_seen tree_of c.args.self.now.map c.as_slice.ensures.sorted)

pub returns-in-Err-clause-ordered : goal.returns-in-Err-clause-ordered
returns-in-Err-clause-ordered c = rw entries_of_map-map (ordered_seen tree_of c.args.self.now.map c.as_slice.ensures.sorted)
