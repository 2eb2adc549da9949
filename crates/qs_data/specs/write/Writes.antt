-- What a call that writes leaves behind.
use Rattle.std.specs.Prelude.{◌≡◌, ℕ, ◌<◌, ◌≤◌, ◌⊎◌, Bool, true, List, [], ◌∷◌, ◌++◌, length, take, Option, Some, None, Result, Ok, Err}
use Rattle.std.specs.List.{All}
use Rattle.std.specs.Io.KnownBytes.{Appends}
use Rattle.qs_spec.specs.Config.{Config}
use Rattle.qs_spec.specs.Escape.{encoded}
use Rattle.qs_spec.specs.Entry.{Path, Entry, Output, too_deep, bad_key}
use Rattle.qs_spec.specs.Written.{open_bytes, close_bytes, brackets_text, written, started_after}
use Rattle.qs_data.specs.declared.write.entry.Stream.{Stream}
use Rattle.qs_data.specs.declared.write.entry.Walk.{Walk}
use Rattle.qs_data.specs.declared.write.stop.Stop.{Stop}
use Rattle.qs_data.specs.declared.write.stop.Stop.TheVariants as stop
use Rattle.qs_data.specs.write.State.{IsVisible}

-- what is known of a sink and of the text in it: the bytes if the sink reports them, whether a put failed, the name of a
-- lent writer, and whether an entry with a key was written
pub record StreamState : Type 0 where
  pub taken : Option (List ℕ)
  pub failed : Bool
  pub writer : ℕ
  pub started : Bool

-- exactly the text of these entries was added
pub record Adds (is_form : Bool) (old new : StreamState) (es : List Entry) : Type 0 where
  pub text : Appends old.taken new.taken (written is_form old.started es)
  pub visible : All IsVisible (written is_form old.started es)
  pub started : new.started ≡ started_after old.started es
  pub failed : new.failed ≡ old.failed
  pub writer : new.writer ≡ old.writer

-- the text of some first entries was added
pub record AddsSome (is_form : Bool) (old new : StreamState) (es : List Entry) : Type 0 where
  pub front : List Entry
  pub rest : List Entry
  pub parts : es ≡ front ++ rest
  pub adds : Adds is_form old new front

-- a proper prefix of the text was added, and then a put failed
pub record AddsPart (is_form : Bool) (old new : StreamState) (es : List Entry) : Type 0 where
  pub count : ℕ
  pub proper : count < length (written is_form old.started es)
  pub text : Appends old.taken new.taken (take count (written is_form old.started es))
  pub visible : All IsVisible (take count (written is_form old.started es))
  pub failed : new.failed ≡ true
  pub writer : new.writer ≡ old.writer

-- what was written at each stop
abbrev pub Stops : Stop → Config → StreamState → StreamState → Output → Type 0
Stops stop.TooDeep config old new o = (o.error ≡ Some too_deep) × Adds config.is_form old new o.entries
Stops stop.BadKey config old new o = (o.error ≡ Some bad_key) × Adds config.is_form old new o.entries
Stops stop.Io config old new o = AddsPart config.is_form old new o.entries
Stops stop.OutOfMemory config old new o = AddsSome config.is_form old new o.entries

-- a path after `&`
abbrev pub path_after : Bool → Path → List ℕ
path_after is_form [] = []
path_after is_form (s ∷ path) = 38 ∷ (encoded is_form s ++ brackets_text is_form path)

-- such a text with one more segment
abbrev pub grown : Bool → List ℕ → List ℕ → List ℕ
grown is_form [] s = 38 ∷ encoded is_form s
grown is_form (b ∷ text) s = (b ∷ text) ++ (open_bytes is_form ++ (encoded is_form s ++ close_bytes is_form))

-- the walk is at this path, under this configuration
pub record IsAt (config : Config) (path : Path) (walk : Walk) : Type 0 where
  pub settings : walk.config ≡ config
  pub depth : walk.depth ≡ length path
  pub text : walk.text ≡ path_after config.is_form path
  pub visible : All IsVisible walk.text

-- all entries were written, there is no error and the walk is where it was, or what the stop says
abbrev pub Writes : Result (Unit {0}) Stop → Config → Path → StreamState → StreamState → Walk → Output → Type 0
Writes (Ok x) config path old new walk o = (o.error ≡ None) × Adds config.is_form old new o.entries × IsAt config path walk
Writes (Err e) config path old new walk o = Stops e config old new o

-- a stream and the text in it, by what its sink reports
abbrev pub state_in : {S : Type 0} → (S → Option (List ℕ)) → (S → Bool) → (S → ℕ) → Stream S → StreamState
state_in taken failed name stream = record { taken = taken stream.sink; failed = failed stream.sink; writer = name stream.sink; started = stream.started }

-- what a call that writes a part leaves, under this configuration, wherever the walk was
abbrev pub WritesAt : Config → Result (Unit {0}) Stop → StreamState → StreamState → Walk → Walk → (Config → Path → Output) → Type 0
WritesAt config result old new from to part = (path : Path) → IsAt config path from → Writes result config path old new to (part config path)

-- what it leaves of a stream, under any configuration
abbrev pub WritesTo : {S : Type 0} → (S → Option (List ℕ)) → (S → Bool) → (S → ℕ) → Result (Unit {0}) Stop → Stream S → Stream S → Walk → Walk → (Config → Path → Output) → Type 0
WritesTo taken failed name result old new from to part = (config : Config) → WritesAt config result (state_in taken failed name old) (state_in taken failed name new) from to part

-- wherever the walk was, it is under one more segment
abbrev pub EntersAt : Config → List ℕ → Walk → Walk → Type 0
EntersAt config segment from within = (path : Path) → IsAt config path from → (length path ≤ config.max_depth) × IsAt config (path ++ segment ∷ []) within

-- wherever the walk is, it can't go in, or an allocation failed
abbrev pub IsBarred : Config → Stop → Walk → Type 0
IsBarred config e from = (path : Path) → IsAt config path from → ((e ≡ stop.TooDeep) × (config.max_depth < length path)) ⊎ (e ≡ stop.OutOfMemory)

-- the walk is where it was before its last segment, if its text had this length there
abbrev pub LeavesAt : Config → ℕ → Walk → Walk → Type 0
LeavesAt config len from to = (path : Path) (segment : List ℕ) → IsAt config (path ++ segment ∷ []) from → len ≡ length (path_after config.is_form path) → IsAt config path to
