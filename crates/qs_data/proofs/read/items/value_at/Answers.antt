use Rattle.qs_data.proofs.Common.{sym, true, option_map, drop, ParsedSegment, Tree, is_place, placed, tree_of, entries_of_map, parsed_segment_of_key, first_item, passed}
use Rattle.qs_data.proofs.lemmas.read.Items.{first_rejected, first_given}
use Rattle.qs_data.proofs.lemmas.read.ReadErrors.{gives_exit}
use Rattle.qs_data.proofs.read.items.value_at.Goals as goal

pub returns-in_err-test_place : goal.returns-in_err-test_place
returns-in_err-test_place c =
    let es = entries_of_map c.args.map.now in
    let i = c.args.place in
    let x : ParsedSegment × Tree = (parsed_segment_of_key c.in-Some.key.now, tree_of c.in-Some.value.now) in
    gives_exit (option_map (λ v. tree_of v.now)) true true c.from_residual.result c.in_err-test_place.field-0.0 (passed (is_place i x.0.segment)) (first_item (drop i (placed 0 es)))
    c.from_residual.ensures.1 c.in_err-test_place.ensures (first_rejected i es x (sym c.in-Some.ensures.value)) (λ n. n)

pub returns : goal.returns
returns c =
    let x : ParsedSegment × Tree = (parsed_segment_of_key c.in-Some.key.now, tree_of c.in-Some.value.now) in
    first_given c.args.place (entries_of_map c.args.map.now) x (sym c.in-Some.ensures.value) c.in_ok-test_place.ensures
