use Rattle.std.proofs.Common.{◌≡◌, ◌-◌}
use Rattle.qs_data.specs.shape.Views.{shape_of}
use Rattle.qs_c.specs.Notation.{options}
use Rattle.qs_c.proofs.notation.shapes.options.Given as goal

abbrev pub invariant-loop-at : goal.invariant-loop-at
invariant-loop-at l = options l.most (shape_of l.initial.shape) l.initial.cursor.rest.now ≡ options (l.most - l.at) (shape_of l.shape) l.cursor.rest.now
