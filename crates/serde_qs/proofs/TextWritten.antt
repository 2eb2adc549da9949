-- What a call returns that writes a value in memory.
use Rattle.std.proofs.Common.{◌≡◌, ℕ, false, List, [], ◌<◌, length, take, ◌⊎◌, inl, inr, sym, ◌∙◌, subst, string_bytes, Option, Some, None, Result, Ok, Err, refl}
use Rattle.std.proofs.lemmas.List.Elements.{All-nil, All-take}
use Rattle.std.proofs.KnownBytes.{Appends-nil}
use Rattle.std.specs.Prelude.{OnOk}
use Rattle.std.specs.List.{All}
use Rattle.std.specs.Result.{IsErrAnd}
use Rattle.std.specs.Io.KnownBytes.{Appends}
use Rattle.std.specs.declared.string.String.{String}
use Rattle.std.specs.declared.alloc.Global.{Global}
use Rattle.qs_spec.specs.Config.{Config}
use Rattle.qs_spec.specs.Data.{Data}
use Rattle.qs_spec.specs.Entry.{Path, entries, too_deep, bad_key}
use Rattle.qs_spec.specs.Written.{written}
use Rattle.qs_tree.specs.declared.error.Error.{Error}
use Rattle.qs_tree.specs.declared.error.Error.TheVariants.{MaxSerializationDepthExceeded, Unsupported, Io, OutOfMemory}
use Rattle.qs_tree.specs.Error.{IsTooDeep, IsUnsupported, IsIo, IsOutOfMemory}
use Rattle.qs_data.specs.declared.write.stop.Stop.{Stop}
use Rattle.qs_data.specs.declared.write.stop.Stop.TheVariants as stop
use Rattle.qs_data.specs.declared.write.writer.Writer.{Writer}
use Rattle.qs_data.specs.write.Errors.{error_of}
use Rattle.qs_data.specs.write.Parts.{IsFresh, WritesPart, data_part, state_of}
use Rattle.qs_data.specs.write.State.{IsVisible}
use Rattle.qs_data.specs.write.Writes.{Adds, IsAt, StreamState, Writes}
use Rattle.serde_qs.specs.WrittenText.{IsValueWriteError, ReturnsText, WritesValue, text_of, text_of_first}

-- nothing was written before
abbrev start_of : StreamState
start_of = record { taken = Some []; failed = false; writer = 0; started = false }

some_bytes : (a b : List ℕ) → Some a ≡ Some b → a ≡ b
some_bytes a b h = cc

module _ (config : Config) (x : Data) (start last : Writer) (fresh : IsFresh config start) where
  at_top : (r : Result (Unit {0}) Stop) → WritesPart r start last (data_part x) → Writes r config [] start_of (state_of last) last.walk (entries config x)
  at_top r p =
      let P : Config → Type 0 = λ k. (path : Path) → IsAt k path start.walk → Writes r k path (state_of start) (state_of last) last.walk (data_part x k path) in
      let Q : StreamState → Type 0 = λ s. Writes r config [] s (state_of last) last.walk (entries config x) in
      subst Q fresh.state (subst P fresh.settings p.writes [] fresh.top)

  -- the text is that of the data
  text_shown : (bytes : List ℕ) → Some bytes ≡ (state_of last).taken → Adds config.is_form start_of (state_of last) (entries config x).entries → (bytes ≡ text_of config x) × All IsVisible bytes
  text_shown bytes taken adds =
      let same : bytes ≡ text_of config x = some_bytes bytes last.stream.sink.writer.items taken ∙ adds.text in
      (same, subst (All IsVisible) (sym same) adds.visible)

  pub text_is : (bytes : List ℕ) → Some bytes ≡ (state_of last).taken → WritesPart (Ok tt) start last (data_part x)
      → ((entries config x).error ≡ None) × (bytes ≡ text_of config x) × All IsVisible bytes
  text_is bytes taken p = let w = at_top (Ok tt) p in let shown = text_shown bytes taken w.1 in (w.0, shown.0, shown.1)

  pub stop_returned : (e : Stop) → WritesPart (Err e) start last (data_part x) → ReturnsText config x (Err (error_of config e))
  stop_returned stop.TooDeep p = (refl, (at_top (Err stop.TooDeep) p).0)
  stop_returned stop.BadKey p = (at_top (Err stop.BadKey) p).0
  stop_returned stop.Io p = tt
  stop_returned stop.OutOfMemory p = tt

-- what a call owes that put these bytes, by what it returns
value_put : (config : Config) (x : Data) (old new : Option (List ℕ)) (r : Result (Unit {0}) Error) (bytes : List ℕ) → Appends old new bytes → All IsVisible bytes
    → OnOk r ((entries config x).error ≡ None) → OnOk r (Appends old new (text_of config x))
    → ((n : ℕ) → IsTooDeep r n → (n ≡ config.max_depth) × ((entries config x).error ≡ Some too_deep) × Appends old new (text_of config x))
    → (IsUnsupported r → ((entries config x).error ≡ Some bad_key) × Appends old new (text_of config x))
    → (IsIo r → (n : ℕ) × (n < length (text_of config x)) × Appends old new (take n (text_of config x))) → (IsOutOfMemory r → (k : ℕ) × Appends old new (text_of_first k config x))
    → IsValueWriteError r → WritesValue config x old new r
value_put config x old new r bytes added visible whole text deep key io memory errors = record {
  whole = whole;
  text = text;
  too_deep = λ n h. let d = deep n h in (d.0, d.1);
  too_deep_text = λ n h. (deep n h).2;
  bad_key = λ h. (key h).0;
  bad_key_text = λ h. (key h).1;
  io_text = io;
  memory_text = memory;
  visible = (bytes, added, visible);
  errors = errors;
}

-- an allocation failed, and nothing was put
pub nothing_put : (config : Config) (x : Data) (known : Option (List ℕ)) (r : Result (Unit {0}) Error) → IsErrAnd r (λ e. e ≡ OutOfMemory) → WritesValue config x known known r
unfolding written
nothing_put config x known (Ok t) failed = absurd failed
nothing_put config x known (Err e) failed = subst (λ e. WritesValue {T = Unit {0}} config x known known (Err e)) (sym failed)
    (value_put config x known known (Err OutOfMemory) [] (Appends-nil known) (All-nil IsVisible) tt tt (λ n h. absurd h) (λ h. absurd h) (λ h. absurd h) (λ _. (0, Appends-nil known)) tt)

-- what was put of a text, and what is returned
abbrev Puts : List ℕ → Result (Unit {0}) Error → Option (List ℕ) → Option (List ℕ) → Result (Unit {0}) Error → Type 0
Puts bytes made old new r = ((r ≡ made) × Appends old new bytes) ⊎ (IsIo r × (n : ℕ) × (n < length bytes) × Appends old new (take n bytes))

module _ (config : Config) (x : Data) (start last : Writer) (fresh : IsFresh config start) (bytes : List ℕ) (taken : Some bytes ≡ (state_of last).taken) (old new : Option (List ℕ)) where
  -- a write failed, and a proper beginning of the text was put
  part_put : (r : Result (Unit {0}) Error) → (bytes ≡ text_of config x) × All IsVisible bytes → IsIo r → (n : ℕ) × (n < length bytes) × Appends old new (take n bytes) → WritesValue config x old new r
  part_put (Err (Io cause)) shown io part =
      value_put config x old new (Err (Io cause)) (take part.0 bytes) part.2 (All-take IsVisible part.0 bytes shown.1) tt tt (λ n h. absurd h) (λ h. absurd h)
      (λ _. subst (λ t. (n : ℕ) × (n < length t) × Appends old new (take n t)) shown.0 part) (λ h. absurd h) tt
  part_put _ shown io part = absurd io

  -- the text was put, or a beginning of it
  text_put : (made r : Result (Unit {0}) Error) → Puts bytes made old new r → Adds config.is_form start_of (state_of last) (entries config x).entries
      → (Appends old new bytes → All IsVisible bytes → Appends old new (text_of config x) → WritesValue config x old new made) → WritesValue config x old new r
  text_put made r (inl all) adds done =
      let shown = text_shown config x start last fresh bytes taken adds in
      subst (WritesValue config x old new) (sym all.0) (done all.1 shown.1 (subst (Appends old new) shown.0 all.1))
  text_put made r (inr part) adds done = part_put r (text_shown config x start last fresh bytes taken adds) part.0 (part.1, part.2, part.3)

  -- all of it at Ok, and after an error that of the entries before the rejected one

  pub ok_put : (r : Result (Unit {0}) Error) → WritesPart (Ok tt) start last (data_part x) → Puts bytes (Ok tt) old new r → WritesValue config x old new r
  ok_put r p puts =
      let w = at_top config x start last fresh (Ok tt) p in
      text_put (Ok tt) r puts w.1 (λ added visible text. value_put config x old new (Ok tt) bytes added visible w.0 text (λ n h. absurd h) (λ h. absurd h) (λ h. absurd h) (λ h. absurd h) tt)

  pub too_deep_put : (n : ℕ) (r : Result (Unit {0}) Error) → n ≡ config.max_depth → WritesPart (Err stop.TooDeep) start last (data_part x) → Puts bytes (Err (MaxSerializationDepthExceeded n)) old new r
      → WritesValue config x old new r
  too_deep_put n r is p puts =
      let w = at_top config x start last fresh (Err stop.TooDeep) p in
      text_put (Err (MaxSerializationDepthExceeded n)) r puts w.1 (λ added visible text. value_put config x old new (Err (MaxSerializationDepthExceeded n)) bytes added visible tt tt
      (λ m h. (sym h ∙ is, w.0, text)) (λ h. absurd h) (λ h. absurd h) (λ h. absurd h) tt)

  pub bad_key_put : (r : Result (Unit {0}) Error) → WritesPart (Err stop.BadKey) start last (data_part x) → Puts bytes (Err Unsupported) old new r → WritesValue config x old new r
  bad_key_put r p puts =
      let w = at_top config x start last fresh (Err stop.BadKey) p in
      text_put (Err Unsupported) r puts w.1 (λ added visible text. value_put config x old new (Err Unsupported) bytes added visible tt tt (λ n h. absurd h) (λ h. (w.0, text)) (λ h. absurd h) (λ h. absurd h) tt)

pub string_returned : (config : Config) (x : Data) (bytes : List ℕ) (s : String Global) → string_bytes s ≡ bytes → ((entries config x).error ≡ None) × (bytes ≡ text_of config x) × All IsVisible bytes → ReturnsText config x (Ok s)
string_returned config x bytes s is w = (w.0, is ∙ w.1, subst (All IsVisible) (sym is) w.2)
