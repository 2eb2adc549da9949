-- The data of values that no program has. A law about every value includes a `u8` of 300, since a number here is any number. Such a value's
-- data isn't plain, so nothing is promised of it.
use Rattle.std.specs.Prelude.{Bool, if◌then◌else◌}
use Rattle.qs_spec.specs.Data.{Data, no_pairs, one_pair}
use Rattle.qs_spec.specs.Data.Data.{mapping, unit}
use Rattle.qs_spec.specs.Fits.{fits}
use Rattle.qs_spec.specs.Shape.{Shape}

-- data that isn't plain: a map with a key that isn't written
abbrev pub misfit : Data
misfit = mapping (one_pair unit unit no_pairs)

-- this data, if a test holds
abbrev pub only_where : Bool → Data → Data
only_where b x = if b then x else misfit

-- this data, if it fits the shape, as the data of every value of a program does
abbrev pub fitting : Shape → Data → Data
fitting shape x = only_where (fits shape x) x
