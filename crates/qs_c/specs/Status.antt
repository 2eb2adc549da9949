-- The statuses that calls return.
use Rattle.std.specs.Prelude.{◌≡◌, ◌⊎◌, ℕ, ◌<◌, List, [], Option, Some, None, string_bytes}
use Rattle.std.specs.declared.alloc.Global.{Global}
use Rattle.std.specs.declared.string.String.{String}
use Rattle.qs_c.specs.declared.failure.Failure.{Failure}
use Rattle.qs_c.specs.declared.failure.FailureKind.{FailureKind}
use Rattle.qs_c.specs.declared.failure.FailureKind.TheVariants.{OutOfMemory, Settings, Parse, Mismatch, NotUtf8, Shape, Json, TooDeep, TooLarge, TooLong, Absent, Path}

-- the status of each kind of error
abbrev pub code_of : FailureKind → ℕ
code_of OutOfMemory = 2
code_of Settings = 3
code_of Parse = 4
code_of Mismatch = 5
code_of NotUtf8 = 6
code_of Shape = 7
code_of Json = 8
code_of TooDeep = 9
code_of TooLarge = 10
code_of TooLong = 11
code_of Absent = 12
code_of Path = 13

-- the call has a result, which fits into the caller's buffer (0) or doesn't (1)
abbrev pub IsDone : ℕ → Type 0
IsDone status = status < 2

-- A number in the settings is too large, or an allocation failed.
abbrev pub IsStoppedEarly : ℕ → Type 0
IsStoppedEarly status = (status ≡ 3) ⊎ (status ≡ 2)

-- The same, or the querystring is too large.
abbrev pub IsHeldBack : ℕ → Type 0
IsHeldBack status = IsStoppedEarly status ⊎ (status ≡ 10)

-- an error's text, which is empty if there is none
abbrev pub text_or_none : Option (String Global) → List ℕ
text_or_none (Some text) = string_bytes text
text_or_none None = []

abbrev pub text_of : Failure → List ℕ
text_of failure = text_or_none failure.text

-- an allocation failed; this error has neither a text nor a position
pub record IsOutOfMemory (failure : Failure) : Type 0 where
  pub kind : failure.kind ≡ OutOfMemory
  pub position : failure.position ≡ 0
  pub text : text_of failure ≡ []

-- a failed allocation has no text
abbrev pub MemoryHasNoText : Failure → Type 0
MemoryHasNoText failure = failure.kind ≡ OutOfMemory → text_of failure ≡ []
