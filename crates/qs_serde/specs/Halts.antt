-- The error of a value that isn't written.
use Rattle.std.specs.Prelude.{◌≡◌, ℕ, List, string_bytes, Result, Ok, Err}
use Rattle.qs_spec.specs.Config.{Config}
use Rattle.qs_tree.specs.declared.error.Error.{Error}
use Rattle.qs_tree.specs.declared.error.Error.TheVariants as e
use Rattle.qs_data.specs.write.Errors.{error_of}
use Rattle.qs_serde.specs.Placed.{IsMemory}
use Rattle.qs_serde.specs.declared.writing.halt.Halt.{Halt}
use Rattle.qs_serde.specs.declared.writing.halt.Halt.TheVariants.{Custom, Stopped, Failed}
use Rattle.qs_serde.specs.declared.writing.frame.Next.TheVariants.{Nothing}
use Rattle.qs_serde.specs.declared.writing.position.Position.{Position}

-- of a value that was written under a configuration
abbrev pub IsHaltError : Config → Halt → Error → Type 0
IsHaltError config (Custom message) error = error ≡ e.Custom message.value
IsHaltError config (Stopped stop) error = error ≡ error_of config stop
IsHaltError config Failed error = error ≡ e.Failed

-- an event wasn't written, so no later one is
abbrev pub HasFailed : Position → Type 0
HasFailed p = p.next ≡ Nothing

-- What a call returns after a serializer's last step: its error; `Failed` if it has none, but an earlier event wasn't written.
abbrev pub IsFinish : Config → Type 0 → Result (Unit {0}) Halt → Result (Unit {0}) Error → Type 0
IsFinish config failed (Err halt) (Err error) = IsHaltError config halt error
IsFinish config failed (Ok x) (Err error) = failed × (error ≡ e.Failed)
IsFinish config failed (Ok x) (Ok y) = ¬ failed
IsFinish config failed (Err halt) (Ok y) = ⊥

-- with this message, unless an allocation failed
abbrev pub IsHaltSaying : List ℕ → Halt → Type 0
IsHaltSaying text (Custom message) = string_bytes message.value ≡ text
IsHaltSaying text halt = IsMemory halt
