-- The texts that events have.
use Rattle.std.specs.Prelude.{◌≡◌, ◌⊎◌, ⊤, ℕ, Bool, true, false, ◌||◌, List, [], ◌∷◌, take, Option, Some, IfSome, string_bytes, Result, Ok, Err, OnOk}
use Rattle.std.specs.List.{All}
use Rattle.std.specs.Io.KnownBytes.{Appends}
use Rattle.std.specs.declared.string.String.{String}
use Rattle.std.specs.declared.alloc.Global.{Global}
use Rattle.qs_spec.specs.Config.{Config}
use Rattle.qs_spec.specs.Entry.{Entry}
use Rattle.qs_spec.specs.Written.{written}
use Rattle.qs_tree.specs.declared.error.Error.{Error}
use Rattle.qs_tree.specs.Error.{IsIo}
use Rattle.qs_data.specs.write.State.{IsVisible}
use Rattle.serde.specs.Event.{Event, Log, single, double, text}
use Rattle.qs_serde.specs.Sent.{State, start, all_sent, text_of_sent}

-- a float is written as some text
abbrev pub IsShown : Event → Event → Type 0
IsShown (single x) e = (bytes : List ℕ) × (e ≡ text bytes)
IsShown (double x) e = (bytes : List ℕ) × (e ≡ text bytes)
IsShown x e = e ≡ x

abbrev pub AreShown : List Event → List Event → Type 0
AreShown [] shown = shown ≡ []
AreShown (e ∷ es) shown = (first : Event) × (rest : List Event) × (shown ≡ first ∷ rest) × IsShown e first × AreShown es rest

-- whether one of them is a float
abbrev pub is_float : Event → Bool
is_float (single x) = true
is_float (double x) = true
is_float _ = false

abbrev pub has_float : List Event → Bool
has_float [] = false
has_float (e ∷ es) = is_float e || has_float es

-- these events lead from the start to this state
abbrev pub Leads : Config → List Event → State → Type 0
Leads config es s = (shown : List Event) × AreShown es shown × (all_sent config shown start ≡ Some s)

-- if the events are known, this is their text
abbrev pub IsTextOf : Config → Log → List ℕ → Type 0
IsTextOf config log bytes = ∥ IfSome log (λ es. (shown : List Event) × AreShown es shown × (text_of_sent config shown ≡ Some bytes)) ∥₁

-- the same, or there is no text
abbrev pub IsTextOrNone : Config → Log → List ℕ → Type 0
IsTextOrNone config log bytes = ∥ (bytes ≡ []) ⊎ IfSome log (λ es. (shown : List Event) × AreShown es shown × (text_of_sent config shown ≡ Some bytes)) ∥₁

-- it is the text of whole entries
abbrev pub IsTextOfEntries : Config → List ℕ → Type 0
IsTextOfEntries config bytes = ∥ ((es : List Entry) × (bytes ≡ written config.is_form false es) × All IsVisible bytes) ∥₁

-- the text of the events that the value sends; nothing is said of errors
abbrev pub ReturnsTextOf : Config → (Log → Log → Type 0) → Result (String Global) Error → Type 0
ReturnsTextOf config writes (Ok made) = ((log : Log) × writes (Some []) log × IsTextOf config log (string_bytes made)) × IsTextOfEntries config (string_bytes made)
ReturnsTextOf config writes (Err e) = ⊤

-- What was written to a writer, whose bytes were old and are new: on Ok, the text of the events that the value sends. It is the text of
-- whole entries, or, if the error is `Io`, a prefix of such a text.
pub record WritesTextOf (config : Config) (writes : Log → Log → Type 0) (old new : Option (List ℕ)) (result : Result (Unit {0}) Error) : Type 0 where
  pub whole : OnOk result ((log : Log) × writes (Some []) log × ((bytes : List ℕ) × IsTextOf config log bytes × Appends old new bytes))
  pub entries : ¬ IsIo result → (bytes : List ℕ) × IsTextOfEntries config bytes × Appends old new bytes
  pub part : (bytes : List ℕ) × (n : ℕ) × IsTextOfEntries config bytes × Appends old new (take n bytes)
