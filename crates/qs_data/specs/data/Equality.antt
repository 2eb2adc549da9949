-- Equality of data.
use Rattle.std.specs.Prelude.{Bool}
use Rattle.qs_data.specs.declared.data.data.Data.{Data}
use Rattle.qs_data.specs.contracts.data.data.DataPartialEq.TheImpl as equality

-- what `==` returns; the law `equality_of_data` says when that is true
abbrev pub data_eq : Data → Data → Bool
data_eq = equality.ghosts.eq
