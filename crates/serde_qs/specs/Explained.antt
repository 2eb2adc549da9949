-- What a typed call returns that says which part isn't read.
use Rattle.std.specs.Prelude.{⊤, Result, Ok, Err}
use Rattle.qs_tree.specs.declared.error.Error.{Error}
use Rattle.qs_tree.specs.declared.error.Error.TheVariants.{Custom, Parse, Utf8, OutOfMemory}
use Rattle.serde_qs.specs.declared.path.Rejection.{Rejection}

-- the same as a typed call returns it, without the path
abbrev pub without_path : {X E : Type 0} → Result (Result X Rejection) E → Result X Error
without_path (Ok (Ok x)) = Ok x
without_path (Ok (Err rejection)) = Err rejection.error
without_path (Err e) = Err OutOfMemory

-- the error is one of the input: a Parse, Custom or Utf8 error
abbrev pub IsOfInput : Error → Type 0
IsOfInput (Parse message position) = ⊤
IsOfInput (Custom message) = ⊤
IsOfInput (Utf8 cause) = ⊤
IsOfInput _ = ⊥

-- a rejection, if the call returned one, has such an error
abbrev pub OnlyRejects : {X E : Type 0} → Result (Result X Rejection) E → Type 0
OnlyRejects (Ok (Err rejection)) = IsOfInput rejection.error
OnlyRejects _ = ⊤
