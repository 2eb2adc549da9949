use Rattle.qs_tree.proofs.Common.{slice_get-get_or, key_cmp}
use Rattle.qs_tree.proofs.lemmas.tree.Places.{hit_lookup, gap_lookup}
use Rattle.qs_tree.proofs.tree.map.lookup.Goals as goal

pub returns-in-Ok-clause-value : goal.returns-in-Ok-clause-value
returns-in-Ok-clause-value g c =
    let found = rw c.in-Ok.is at c.search.ensures.found in
    let at = c.in-Ok.at in
    let es = c.args.entries.now in
    rw (hit_lookup key_cmp c.args.key.now es at found, slice_get-get_or es at c.index-entries-at.result found.in_range)

pub returns-in-Err-clause-value : goal.returns-in-Err-clause-value
returns-in-Err-clause-value g c =
    let absent = rw c.in-Err.is at c.search.ensures.absent in
    let es = c.args.entries.now in
    rw (gap_lookup key_cmp c.args.key.now es c.in-Err.field-0 absent)
