use Rattle.std.proofs.Common.{◌≡◌, true, false, refl, length, arith}
use Rattle.qs_spec.specs.Shape.{is_distinct}
use Rattle.qs_data.specs.shape.Views.{shape_of}
use Rattle.qs_c.specs.Found.{and_then}
use Rattle.qs_c.specs.Notation.{is_empty, shape, whole}
use Rattle.qs_c.proofs.Found.{cond-false, cond-true, then-fault, then-found}
use Rattle.qs_c.proofs.Listing.{nothing-left, something-left}
use Rattle.qs_c.proofs.Stopping.{exits}
use Rattle.qs_c.proofs.notation.whole_shape.Goals as goal

pub returns-clause-shape : goal.returns-clause-shape
returns-clause-shape c =
    let s = shape_of c.in_ok-shape.shape in
    let rest = c.shape.new.cursor.rest.now in
    let none : length rest ≡ 0 = omega arith in
    let differ : is_distinct s ≡ true = grind arith in
    then-found _ _ _ s rest c.in_ok-shape.ensures (cond-true (is_empty rest) _ _ _ (nothing-left rest none) (cond-true (is_distinct s) _ _ _ differ refl))

pub returns-in_err-shape-clause-shape : goal.returns-in_err-shape-clause-shape
returns-in_err-shape-clause-shape c =
    let start = c.args.cursor.now.rest.now in
    exits shape_of c.from_residual.result (shape 32 start) (and_then (shape 32 start) whole) c.in_err-shape.field-0.0 c.shape.new.cursor.rest.now c.from_residual.ensures.1 c.in_err-shape.ensures
    (λ w q e. then-fault _ _ w q e)

pub returns-then-len-gt0-clause-shape : goal.returns-then-len-gt0-clause-shape
returns-then-len-gt0-clause-shape c =
    let s = shape_of c.in_ok-shape.shape in
    let rest = c.shape.new.cursor.rest.now in
    let some : is_empty rest ≡ false = something-left rest (omega arith) in
    then-found _ _ _ s rest c.in_ok-shape.ensures (cond-false (is_empty rest) _ _ _ some refl)

pub returns-then-not-is_distinct_by_sorting-clause-shape : goal.returns-then-not-is_distinct_by_sorting-clause-shape
returns-then-not-is_distinct_by_sorting-clause-shape c =
    let s = shape_of c.in_ok-shape.shape in
    let rest = c.shape.new.cursor.rest.now in
    let none : length rest ≡ 0 = omega arith in
    let same : is_distinct s ≡ false = grind arith in
    then-found _ _ _ s rest c.in_ok-shape.ensures (cond-true (is_empty rest) _ _ _ (nothing-left rest none) (cond-false (is_distinct s) _ _ _ same refl))
