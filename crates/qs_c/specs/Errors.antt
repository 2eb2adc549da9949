-- The kind, the position and the text of an error of the other crates.
use Rattle.std.specs.Prelude.{◌≡◌, ◌⊎◌, ℕ, List, IfSome}
use Rattle.qs_tree.specs.Error.{error_text}
use Rattle.qs_tree.specs.declared.error.Error.{Error}
use Rattle.qs_tree.specs.declared.error.Error.TheVariants as e
use Rattle.qs_c.specs.declared.failure.Failure.{Failure}
use Rattle.qs_c.specs.declared.failure.FailureKind.{FailureKind}
use Rattle.qs_c.specs.declared.failure.FailureKind.TheVariants.{OutOfMemory, Parse, Mismatch, NotUtf8, TooDeep}
use Rattle.qs_c.specs.Status.{text_of, IsOutOfMemory}

-- a write to memory fails only if an allocation does
abbrev pub kind_of : Error → FailureKind
kind_of (e.Parse message position) = Parse
kind_of (e.Utf8 cause) = NotUtf8
kind_of (e.MaxSerializationDepthExceeded depth) = TooDeep
kind_of (e.Io cause) = OutOfMemory
kind_of e.OutOfMemory = OutOfMemory
kind_of _ = Mismatch

-- the position of a syntax error, or 0 for any other error
abbrev pub position_of : Error → ℕ
position_of (e.Parse message position) = position
position_of _ = 0

-- the text is what the error's `Display` writes, if that is specified
abbrev pub IsTextOf : Error → List ℕ → Type 0
IsTextOf error text = IfSome (error_text error) (λ bytes. text ≡ bytes)

-- the failure has the error's kind, position and text, or an allocation failed
abbrev pub IsFailureOf : Failure → Error → Type 0
IsFailureOf failure error = IsOutOfMemory failure ⊎ ((failure.kind ≡ kind_of error) × (failure.position ≡ position_of error) × IsTextOf error (text_of failure))
