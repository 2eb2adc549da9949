-- Errors that report something of the input.
use Rattle.std.specs.Prelude.{◌≡◌, Bool, true, false, ⊤, Result, Ok, Err}
use Rattle.qs_tree.specs.declared.error.Error.{Error}
use Rattle.qs_tree.specs.declared.error.Error.TheVariants.{Io, OutOfMemory}

-- the error is that an allocation failed, or a write to memory, which says nothing of the input
abbrev pub is_memory : Error → Bool
is_memory (Io cause) = true
is_memory OutOfMemory = true
is_memory _ = false

-- where the call returned another error, this holds
abbrev pub IfInputError : {T : Type 0} → Result T Error → Type 0 → Type 0
IfInputError (Ok x) P = ⊤
IfInputError (Err e) P = is_memory e ≡ false → P
