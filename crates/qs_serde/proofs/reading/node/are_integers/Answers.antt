use Rattle.qs_data.proofs.Common.{◌≡◌, true, false, ap, sym, ◌∙◌, ParsedSegment, Tree, is_int, entries_of_map, segment_of_key, parsed_segment_of_key, tree_of}
use Rattle.qs_data.proofs.lemmas.read.Items.{int_key, not_int, string_key}
use Rattle.qs_serde.proofs.reading.node.are_integers.Goals as goal

pub loop-at-preserved : goal.loop-at-preserved
loop-at-preserved c =
    let es = entries_of_map c.args.map.now in
    let i = c.loop-at.at in
    let x : ParsedSegment × Tree = (parsed_segment_of_key c.in-Some.key.now, tree_of c.in-Some.field-0-1.now) in
    let number : is_int x.0.segment ≡ true = ap (λ k. is_int (segment_of_key k)) c.in_default-key.is in
    c.loop-at.invariant ∙ int_key i es x (sym c.in-Some.ensures.value) number

pub returns-in-String : goal.returns-in-String
returns-in-String c =
    let es = entries_of_map c.args.map.now in
    let i = c.loop-at.at in
    let x : ParsedSegment × Tree = (parsed_segment_of_key c.in-Some.key.now, tree_of c.in-Some.field-0-1.now) in
    let text : is_int x.0.segment ≡ false = string_key c.in-Some.key.now c.in-String.field-0 c.in-String.is in
    sym (c.loop-at.invariant ∙ not_int i es x (sym c.in-Some.ensures.value) text)
