use Rattle.qs_data.proofs.Common.{◌≡◌, ◌+◌, sym, subst, entry, entries_of_map, parsed_segment_of_key, tree_of, entries_after}
use Rattle.qs_data.proofs.lemmas.read.Entries.{Tested, after_some, tested_more}
use Rattle.qs_data.proofs.read.key_test.test_map.Goals as goal

pub loop-i-preserved : goal.loop-i-preserved
loop-i-preserved c =
    let es = entries_of_map c.args.map.now in
    let i = c.loop-i.i in
    let key = parsed_segment_of_key c.in-Some.key.now in
    let t = tree_of c.in-Some.field-0-1.now in
    let more = entries_after (i + 1) es in
    let here : entries_after i es ≡ entry key.segment key.escaped t more = after_some i es (key, t) (sym c.in-Some.ensures.value) in
    let before : Tested es (entry key.segment key.escaped t more) c.loop-i.tested = subst (λ r. Tested es r c.loop-i.tested) here c.loop-i.invariant in
    let tested = tested_more es more key.segment key.escaped t c.loop-i.tested c.test_key.result before c.test_key.ensures.text c.test_key.ensures.fit in
    subst (λ x. Tested es more x) (sym c.and-tested.ensures) tested
