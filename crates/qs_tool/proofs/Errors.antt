-- Which error reports what.
use Rattle.std.proofs.Common.{◌≡◌, false, Result, Ok, Err}
use Rattle.qs_spec.specs.Shape.{Shape}
use Rattle.qs_spec.specs.Relation.{ReadsNothing}
use Rattle.qs_tree.specs.declared.error.Error.{Error}
use Rattle.qs_tree.specs.declared.error.Error.TheVariants.{Custom, MaxSerializationDepthExceeded, Parse, Unsupported, FromUtf8, Io, ParseInt, Utf8, OutOfMemory, Failed}
use Rattle.qs_tree.specs.Error.{OnlyOutOfMemory}
use Rattle.qs_data.specs.read.Parsed.{Parsed, ReturnsData}
use Rattle.qs_tool.specs.InputError.{is_memory, IfInputError}

-- a reader that returned an error reads nothing, or an allocation failed
pub nothing_read : (parsed : Parsed) (shape : Shape) (e : Error) → ReturnsData parsed shape (Err e) → is_memory e ≡ false → ReadsNothing parsed.config shape parsed.tree
nothing_read parsed shape (Custom message) report other = report
nothing_read parsed shape (MaxSerializationDepthExceeded n) report other = absurd report
nothing_read parsed shape (Parse message position) report other = absurd report
nothing_read parsed shape Unsupported report other = absurd report
nothing_read parsed shape (FromUtf8 cause) report other = absurd report
nothing_read parsed shape (Io cause) report other = absurd report
nothing_read parsed shape (ParseInt cause) report other = absurd report
nothing_read parsed shape (Utf8 cause) report other = report.0
nothing_read parsed shape OutOfMemory report other = cc
nothing_read parsed shape Failed report other = absurd report
