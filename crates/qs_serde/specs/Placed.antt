-- Where the code is, in the words of what the events write; for private clauses.
use Rattle.std.specs.Prelude.{◌≡◌, ⊤, ◌⊎◌, ℕ, Bool, false, List, [], ◌∷◌, ◌++◌, length, Option, Some, None, Result, Ok, Err}
use Rattle.qs_spec.specs.Config.{Config}
use Rattle.qs_spec.specs.Entry.{Path, Entry}
use Rattle.qs_data.specs.declared.write.stop.Stop.TheVariants.{Io, OutOfMemory}
use Rattle.qs_data.specs.declared.write.writer.Writer.{Writer}
use Rattle.qs_data.specs.write.Parts.{state_of}
use Rattle.qs_data.specs.write.Writes.{Adds, IsAt, StreamState, path_after}
use Rattle.qs_serde.specs.declared.writing.frame.Frame.{Frame}
use Rattle.qs_serde.specs.declared.writing.frame.Next.TheVariants.{Nothing}
use Rattle.qs_serde.specs.declared.writing.halt.Halt.{Halt}
use Rattle.qs_serde.specs.declared.writing.halt.Halt.TheVariants.{Stopped}
use Rattle.qs_serde.specs.declared.writing.position.Position.{Position}
use Rattle.serde.specs.Event.{Event}
use Rattle.qs_serde.specs.Sent.{Level, State, path_of, path_at, sent}

-- nothing was written
abbrev pub blank : StreamState
blank = record { taken = Some []; failed = false; writer = 0; started = false }

-- the writer has the text of these entries
pub record Holds (config : Config) (w : Writer) (es : List Entry) : Type 0 where
  pub settings : w.config ≡ config
  pub adds : Adds config.is_form blank (state_of w) es

-- the part of a level has this segment, and the path had this length before it
abbrev pub PartIs : Bool → Path → Option ℕ → Option (List ℕ) → Type 0
PartIs is_form path None None = ⊤
PartIs is_form path None (Some segment) = ⊥
PartIs is_form path (Some len) None = ⊥
PartIs is_form path (Some len) (Some segment) = len ≡ length (path_after is_form path)

-- a level, with the path of what is around it
pub record IsLevel (is_form : Bool) (path : Path) (frame : Frame) (l : Level) : Type 0 where
  pub kind : frame.kind ≡ l.kind
  pub count : frame.count ≡ l.count
  pub part : PartIs is_form path frame.part l.part

-- the levels around, of which the code has the innermost last
abbrev pub AreAround : Bool → List Frame → List Level → Type 0
AreAround is_form frames [] = frames ≡ []
AreAround is_form frames (l ∷ ls) = (rest : List Frame) × (frame : Frame) × (frames ≡ rest ++ frame ∷ []) × IsLevel is_form (path_of ls) frame l × AreAround is_form rest ls

-- the code is in this state
pub record Stands (config : Config) (p : Position) (s : State) : Type 0 where
  pub holds : Holds config p.writer s.entries
  pub next : p.next ≡ s.next
  pub walk : IsAt config (path_at s) p.writer.walk
  pub here : IsLevel config.is_form (path_of s.around) p.frame s.here
  pub around : AreAround config.is_form p.around s.around

-- or there was an error before, and the text of these entries is there
abbrev pub IsIn : Config → Position → State → Type 0
IsIn config p s = Stands config p s ⊎ ((p.next ≡ Nothing) × (s.next ≡ Nothing) × Holds config p.writer s.entries)

-- an allocation failed
abbrev pub IsMemory : Halt → Type 0
IsMemory (Stopped Io) = ⊤
IsMemory (Stopped OutOfMemory) = ⊤
IsMemory _ = ⊥

-- after an error: the event can't come, and nothing was written; or an allocation failed, and there is the text of the entries before, or none
abbrev pub Stops : Option State → Halt → Config → List Entry → Position → Type 0
Stops reached e config before p = ((reached ≡ None) × Holds config p.writer before) ⊎ (IsMemory e × (Holds config p.writer before ⊎ Holds config p.writer []))

-- what a step leaves that leads to this state, if to any
abbrev pub Arrives : {T : Type 0} → Option State → Result T Halt → Config → List Entry → Position → Type 0
Arrives reached (Ok x) config before p = (t : State) × (reached ≡ Some t) × Stands config p t
Arrives reached (Err e) config before p = Stops reached e config before p

-- wherever the code was, it went by this step
abbrev pub Goes : {T : Type 0} → (Config → State → Option State) → Result T Halt → Position → Position → Type 0
Goes step result old new = (config : Config) (s : State) → Stands config old s → Arrives (step config s) result config s.entries new

-- the same after an error, too
abbrev pub Moves : (Config → State → Option State) → Result (Unit {0}) Halt → Position → Position → Type 0
Moves step result old new = (config : Config) (s : State) → IsIn config old s → Arrives (step config s) result config s.entries new

-- an event was sent in this way
pub record IsSent (e : Event) (result : Result (Unit {0}) Halt) (old new : Position) : Type 0 where
  pub moves : Moves (λ config. sent config e) result old new
