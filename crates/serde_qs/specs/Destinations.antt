-- The destination of a value's parts.
use Rattle.std.specs.Prelude.{◌≡◌, Result, Ok, Err, Option, Some, None}
use Rattle.qs_spec.specs.Data as d
use Rattle.qs_data.specs.data.Views.{data_of}
use Rattle.qs_data.specs.declared.data.data.Data.{Data}
use Rattle.qs_data.specs.declared.write.stop.Stop.{Stop}
use Rattle.qs_data.specs.declared.write.stop.Stop.TheVariants as stop
use Rattle.qs_data.specs.declared.write.writer.Writer.{Writer}
use Rattle.qs_data.specs.write.Parts.{WritesPart, data_part}
use Rattle.serde_qs.specs.declared.compound.destination.Destination.{Destination}
use Rattle.serde_qs.specs.declared.compound.destination.Destination.TheVariants as destination

-- on Ok this data is in the place; the one error is that an allocation failed
abbrev pub Keeps : Option Data → Result (Unit {0}) Stop → d.Data → Type 0
Keeps (Some made) (Ok t) x = data_of made ≡ x
Keeps None (Ok t) x = ⊥
Keeps place (Err e) x = e ≡ stop.OutOfMemory

-- it goes into data, and keeps this data
abbrev pub Makes : Destination → Result (Unit {0}) Stop → d.Data → Type 0
Makes (destination.Data alloc place) result x = Keeps place result x
Makes _ result x = ⊥

-- it is a writer to which the entries of this data were written, with this result
abbrev pub Wrote : Writer → Destination → Result (Unit {0}) Stop → d.Data → Type 0
Wrote old (destination.Writer new) result x = WritesPart result old new (data_part x)
Wrote old _ result x = ⊥

-- if the parts go into data, the data is made; if they go to a writer, they are written, and the result is the result of writing them
abbrev pub Takes : Destination → Destination → Result (Unit {0}) Stop → d.Data → Type 0
Takes (destination.Data alloc before) new result x = Makes new result x
Takes (destination.Writer old) new result x = Wrote old new result x
