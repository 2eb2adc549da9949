use Rattle.std.proofs.Common.{Some, sym, ap, ◌∙◌, arith}
use Rattle.qs_spec.specs.Segment.{ParsedSegment}
use Rattle.qs_spec.specs.Tree.{Tree}
use Rattle.qs_tree.specs.tree.Views.{tree_of, entries_of_map, parsed_segment_of_key}
use Rattle.qs_data.specs.shape.Views.{key_shape_of}
use Rattle.qs_data.specs.failure.Unexpected.{is_key}
use Rattle.qs_data.proofs.lemmas.failure.Keys.{other_here, other_later, other_none, other_end}
use Rattle.qs_data.proofs.failure.unexpected.find_unread_key.Goals as goal
use Rattle.qs_data.proofs.failure.unexpected.find_unread_key.Goals.{else-loop-i-test, then-loop-i-test+in_default}

pub returns-then-not-is_read : goal.returns-then-not-is_read
returns-then-not-is_read c =
    let test = is_key (key_shape_of c.args.shape.now) in
    let es = entries_of_map c.args.map.now in
    let x : ParsedSegment × Tree = (parsed_segment_of_key c.in-Some.key.now, tree_of c.in-Some.field-0-1.now) in
    ap Some c.in_ok-of.ensures ∙ sym (c.loop-i.invariant ∙ other_here test c.loop-i.i es x (sym c.in-Some.ensures.value) (sym c.in_ok-is_read.ensures ∙ c.if-not-is_read.true))

pub loop-i-preserved : goal.loop-i-preserved
loop-i-preserved c =
    let test = is_key (key_shape_of c.args.shape.now) in
    let es = entries_of_map c.args.map.now in
    let x : ParsedSegment × Tree = (parsed_segment_of_key c.in-Some.key.now, tree_of c.in-Some.field-0-1.now) in
    c.loop-i.invariant ∙ other_later test c.loop-i.i es x (sym c.in-Some.ensures.value) (sym c.in_ok-is_read.ensures ∙ c.if-not-is_read.false)

pub returns : goal.returns
returns c =
    let test = is_key (key_shape_of c.args.shape.now) in
    let es = entries_of_map c.args.map.now in
    elim c.loop-i-test.branch [
      | else-loop-i-test w ↦ sym (c.loop-i.invariant ∙ other_end test c.loop-i.i es (omega (arith, c.len-i-end.ensures, w.loop-i-test.false)))
      | then-loop-i-test+in_default w ↦ sym (c.loop-i.invariant ∙ other_none test c.loop-i.i es (sym w.in_default.ensures.value))
    ]
