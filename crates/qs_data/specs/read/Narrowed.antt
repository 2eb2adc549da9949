-- The errors of reading, and which of the errors of all calls they are.
use Rattle.std.specs.Prelude.{◌≡◌, ◌⊎◌, Result, Ok, Err, IsErrAnd}
use Rattle.qs_tree.specs.declared.error.Error.{Error}
use Rattle.qs_tree.specs.declared.error.Error.TheVariants as e
use Rattle.qs_data.specs.declared.read.error.ReadError.{ReadError}
use Rattle.qs_data.specs.declared.read.error.ReadError.TheVariants.{Custom, Utf8, OutOfMemory}

-- the error that a caller sees
abbrev pub error_of : ReadError → Error
error_of (Custom message) = e.Custom message.value
error_of (Utf8 cause) = e.Utf8 cause.value
error_of OutOfMemory = e.OutOfMemory

-- the same error, or that its box couldn't be allocated
abbrev pub IsPassedOn : Error → ReadError → Type 0
IsPassedOn error x = (error_of x ≡ error) ⊎ (x ≡ OutOfMemory)

-- the same value, or the error passed on
abbrev pub IsNarrowed : {X : Type 0} → Result X Error → Result X ReadError → Type 0
IsNarrowed given (Ok x) = given ≡ Ok x
IsNarrowed given (Err x) = IsErrAnd given (λ error. IsPassedOn error x)
