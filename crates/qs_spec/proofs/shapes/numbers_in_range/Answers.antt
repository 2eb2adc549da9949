use Rattle.std.proofs.Common.{refl, codes, Some, None, pos, neg_ℤ}
use Rattle.qs_spec.specs.Config.{default}
use Rattle.qs_spec.specs.Shape.{Shape}
use Rattle.qs_spec.specs.Data.{Data}
use Rattle.qs_spec.specs.Worked.{field, struct_with}
use Rattle.qs_spec.proofs.OnLiterals.{on_literals}
use Rattle.qs_spec.proofs.Worked.{is_read}
use Rattle.qs_spec.proofs.shapes.numbers_in_range.Goals as goal

pub returns-clause-greatest : goal.returns-clause-greatest
unfolding on_literals
returns-clause-greatest c = is_read default (field (codes "x") (Shape.unsigned 64)) (codes "x=18446744073709551615") (Some (struct_with (codes "x") (Data.unsigned 18446744073709551615))) refl refl

pub returns-clause-too_great : goal.returns-clause-too_great
unfolding on_literals
returns-clause-too_great c = is_read default (field (codes "x") (Shape.unsigned 64)) (codes "x=18446744073709551616") None refl refl

pub returns-clause-plus : goal.returns-clause-plus
unfolding on_literals
returns-clause-plus c = is_read default (field (codes "x") (Shape.unsigned 8)) (codes "x=%2B5") (Some (struct_with (codes "x") (Data.unsigned 5))) refl refl

pub returns-clause-minus : goal.returns-clause-minus
unfolding on_literals
returns-clause-minus c = is_read default (field (codes "x") (Shape.unsigned 8)) (codes "x=-0") None refl refl

pub returns-clause-least : goal.returns-clause-least
unfolding on_literals
returns-clause-least c = is_read default (field (codes "x") (Shape.signed 8)) (codes "x=-128") (Some (struct_with (codes "x") (Data.signed (neg_ℤ (pos 128))))) refl refl

pub returns-clause-too_small : goal.returns-clause-too_small
unfolding on_literals
returns-clause-too_small c = is_read default (field (codes "x") (Shape.signed 8)) (codes "x=-129") None refl refl

pub returns-clause-minus_zero : goal.returns-clause-minus_zero
unfolding on_literals
returns-clause-minus_zero c = is_read default (field (codes "x") (Shape.signed 8)) (codes "x=-0") (Some (struct_with (codes "x") (Data.signed (pos 0)))) refl refl

pub returns-clause-signed_plus : goal.returns-clause-signed_plus
unfolding on_literals
returns-clause-signed_plus c = is_read default (field (codes "x") (Shape.signed 8)) (codes "x=%2B127") (Some (struct_with (codes "x") (Data.signed (pos 127)))) refl refl

pub returns-clause-too_great_for_a_sign : goal.returns-clause-too_great_for_a_sign
unfolding on_literals
returns-clause-too_great_for_a_sign c = is_read default (field (codes "x") (Shape.signed 8)) (codes "x=128") None refl refl

pub returns-clause-leading_zeros : goal.returns-clause-leading_zeros
unfolding on_literals
returns-clause-leading_zeros c = is_read default (field (codes "x") (Shape.unsigned 8)) (codes "x=007") (Some (struct_with (codes "x") (Data.unsigned 7))) refl refl

pub returns-clause-no_digits : goal.returns-clause-no_digits
unfolding on_literals
returns-clause-no_digits c = is_read default (field (codes "x") (Shape.unsigned 8)) (codes "x=%2B") None refl refl

pub returns-clause-nothing : goal.returns-clause-nothing
unfolding on_literals
returns-clause-nothing c = is_read default (field (codes "x") (Shape.unsigned 8)) (codes "x=") None refl refl
