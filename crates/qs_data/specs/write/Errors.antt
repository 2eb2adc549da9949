-- The errors of writing.
use Rattle.std.specs.Prelude.{Result, Ok, Err}
use Rattle.qs_spec.specs.Config.{Config}
use Rattle.qs_tree.specs.declared.error.Error.{Error}
use Rattle.qs_tree.specs.declared.error.Error.TheVariants.{MaxSerializationDepthExceeded, Unsupported, Io, OutOfMemory, Failed}
use Rattle.qs_data.specs.declared.write.stop.Stop.{Stop}
use Rattle.qs_data.specs.declared.write.stop.Stop.TheVariants as stop

-- only the errors of writing
abbrev pub IsWriteError : {T : Type 0} → Result T Error → Type 0
IsWriteError (Ok x) = Unit {0}
IsWriteError (Err (MaxSerializationDepthExceeded depth)) = Unit {0}
IsWriteError (Err Unsupported) = Unit {0}
IsWriteError (Err (Io cause)) = Unit {0}
IsWriteError (Err OutOfMemory) = Unit {0}
IsWriteError (Err Failed) = Unit {0}
IsWriteError (Err other) = ⊥

-- the error of a value that was written in memory
abbrev pub error_of : Config → Stop → Error
error_of config stop.TooDeep = MaxSerializationDepthExceeded config.max_depth
error_of config stop.BadKey = Unsupported
error_of config stop.Io = OutOfMemory
error_of config stop.OutOfMemory = OutOfMemory
