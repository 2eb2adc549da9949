use Rattle.qs_spec.proofs.Numerals.{printed, digits_of_number, number_of_digits, no_leading_zero}
use Rattle.qs_spec.proofs.keys.digits_and_numbers.Goals as goal

pub returns-clause-printed : goal.returns-clause-printed
returns-clause-printed c = printed

pub returns-clause-digits : goal.returns-clause-digits
returns-clause-digits c = digits_of_number

pub returns-clause-number : goal.returns-clause-number
returns-clause-number c = number_of_digits

pub returns-clause-no_leading_zero : goal.returns-clause-no_leading_zero
returns-clause-no_leading_zero c = no_leading_zero
