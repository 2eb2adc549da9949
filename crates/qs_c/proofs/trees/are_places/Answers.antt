use Rattle.std.proofs.Common.{◌≡◌, ◌+◌, inl, inr, ◌&&◌, true, false, sym, ap, ◌∙◌, arith}
use Rattle.qs_spec.specs.Node.{is_place}
use Rattle.qs_spec.specs.Segment.{ParsedSegment}
use Rattle.qs_spec.specs.Tree.{Tree}
use Rattle.qs_tree.specs.tree.Views.{tree_of, entries_of_map, parsed_segment_of_key}
use Rattle.qs_data.proofs.lemmas.read.Errors.{and_left}
use Rattle.qs_data.specs.read.Entries.{entries_after}
use Rattle.qs_c.specs.Trees.{are_places}
use Rattle.qs_c.proofs.Parts.{nothing_left, places_here}
use Rattle.qs_c.proofs.trees.are_places.Goals as goal

pub returns-then-not-is_place : goal.returns-then-not-is_place
returns-then-not-is_place c =
    let i = c.loop-i.i in
    let es = entries_of_map c.args.map.now in
    let x : ParsedSegment × Tree = (parsed_segment_of_key c.in-Some.key.now, tree_of c.in-Some.field-0-1.now) in
    let other : is_place i x.0.segment ≡ false = sym c.is_place.ensures ∙ c.if-not-is_place.true in
    sym (c.loop-i.invariant ∙ places_here i es x c.in-Some.ensures.value ∙ and_left (is_place i x.0.segment) (are_places (i + 1) (entries_after (i + 1) es)) other)

pub loop-i-preserved : goal.loop-i-preserved
loop-i-preserved c =
    let i = c.loop-i.i in
    let es = entries_of_map c.args.map.now in
    let x : ParsedSegment × Tree = (parsed_segment_of_key c.in-Some.key.now, tree_of c.in-Some.field-0-1.now) in
    let same : is_place i x.0.segment ≡ true = sym c.is_place.ensures ∙ c.if-not-is_place.false in
    c.loop-i.invariant ∙ places_here i es x c.in-Some.ensures.value ∙ ap (λ b. b && are_places (i + 1) (entries_after (i + 1) es)) same

pub returns-after-loop-i : goal.returns-after-loop-i
returns-after-loop-i c =
    let i = c.loop-i.i in
    sym (c.loop-i.invariant ∙ ap (are_places i) (nothing_left i (entries_of_map c.args.map.now) (inl (omega (arith, c.len-i-end.ensures, c.loop-i-test.false)))))

pub returns-in_default : goal.returns-in_default
returns-in_default c =
    let i = c.loop-i.i in
    sym (c.loop-i.invariant ∙ ap (are_places i) (nothing_left i (entries_of_map c.args.map.now) (inr c.in_default.ensures.value)))
