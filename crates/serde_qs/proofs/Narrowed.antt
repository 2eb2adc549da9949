-- An error of a part as the error that reading has.
use Rattle.std.proofs.Common.{◌≡◌, Bool, true, false, List, [], ◌∷◌, Option, Result, Ok, Err, sym, ap, subst}
use Rattle.std.proofs.lemmas.Bool.{false≢true}
use Rattle.std.specs.Option.{option_and_then}
use Rattle.qs_spec.specs.Data.{Data}
use Rattle.qs_spec.specs.Tree.{Tree}
use Rattle.qs_spec.specs.internal.ReadFunction.{Reader}
use Rattle.qs_tree.specs.declared.error.Error.{Error}
use Rattle.qs_tree.specs.declared.error.Error.TheVariants as e
use Rattle.qs_data.specs.declared.read.error.ReadError.{ReadError}
use Rattle.qs_data.specs.read.Errors.{IsCustomOrOutOfMemory, IsOfReading, OnlyCustomUtf8OrOutOfMemory}
use Rattle.qs_data.specs.read.Gives.{Gives, Rejects}
use Rattle.qs_data.specs.read.TreeText.{is_text}
use Rattle.qs_data.specs.read.Narrowed.{IsNarrowed, IsPassedOn}
use Rattle.qs_data.specs.read.internal.ReadError.{ReadGives, ReadRejects}
use Rattle.qs_data.proofs.lemmas.read.ReadErrors.{gives_as, narrowed_gives, passed}
use Rattle.serde_qs.specs.internal.NodeParts.{value_found}
use Rattle.serde_qs.proofs.NodeValues.{found_twice}

-- what rejects is one of the errors that reading has

pub rejects_of_reading : {Y : Type 0} (t : Bool) (x : Error) (r : Option Y) → Rejects t x r → IsOfReading x
rejects_of_reading t (e.Custom m) r h = tt
rejects_of_reading t (e.MaxSerializationDepthExceeded d) r h = absurd h
rejects_of_reading t (e.Parse m p) r h = absurd h
rejects_of_reading t e.Unsupported r h = absurd h
rejects_of_reading t (e.FromUtf8 c) r h = absurd h
rejects_of_reading t (e.Io c) r h = absurd h
rejects_of_reading t (e.ParseInt c) r h = absurd h
rejects_of_reading t (e.Utf8 c) r h = tt
rejects_of_reading t e.OutOfMemory r h = tt
rejects_of_reading t e.Failed r h = absurd h

pub gives_of_reading : {X Y : Type 0} (view : X → Y) (t : Bool) (x : Result X Error) (r : Option Y) → Gives view t x r → OnlyCustomUtf8OrOutOfMemory x
gives_of_reading view t (Ok x) r h = tt
gives_of_reading view t (Err x) r h = rejects_of_reading t x r h

pub custom_of_reading : (x : Error) → IsCustomOrOutOfMemory x → IsOfReading x
custom_of_reading (e.Custom m) h = tt
custom_of_reading (e.MaxSerializationDepthExceeded d) h = absurd h
custom_of_reading (e.Parse m p) h = absurd h
custom_of_reading e.Unsupported h = absurd h
custom_of_reading (e.FromUtf8 c) h = absurd h
custom_of_reading (e.Io c) h = absurd h
custom_of_reading (e.ParseInt c) h = absurd h
custom_of_reading (e.Utf8 c) h = absurd h
custom_of_reading e.OutOfMemory h = tt
custom_of_reading e.Failed h = absurd h

pub ruleset of_reading = (rejects_of_reading, gives_of_reading, custom_of_reading)

-- a field that was found never, once, and twice

pub missing_given : {X Y : Type 0} (view : X → Y) (u : Bool) (given : Result X Error) (y : Result X ReadError) (m : Data → Option Y) (absent : Option Y) (r : Reader) (ts : List Tree)
    → IsNarrowed given y → Gives view true given absent → ts ≡ [] → ReadGives view u y (value_found m absent r ts)
missing_given view u given y m absent r ts is g h =
    gives_as view true u y absent (value_found m absent r ts) (narrowed_gives view true given y absent is g) (sym (ap (value_found m absent r) h)) (λ f. absurd (false≢true (sym f)))

pub found_given : {X Y : Type 0} (view : X → Y) (u : Bool) (given : Result X Error) (y : Result X ReadError) (m : Data → Option Y) (absent : Option Y) (r : Reader) (ts : List Tree) (t : Tree)
    → IsNarrowed given y → Gives view (is_text t) given (option_and_then m (r t)) → ts ≡ t ∷ [] → (is_text t ≡ false → u ≡ false) → ReadGives view u y (value_found m absent r ts)
found_given view u given y m absent r ts t is g h f =
    gives_as view (is_text t) u y (option_and_then m (r t)) (value_found m absent r ts) (narrowed_gives view (is_text t) given y (option_and_then m (r t)) is g) (sym (ap (value_found m absent r) h)) f

pub several_exit : {Y : Type 0} (u : Bool) (y : ReadError) (x : Error) (m : Data → Option Y) (absent : Option Y) (r : Reader) (ts : List Tree) (s t : Tree) (more : List Tree)
    → IsPassedOn x y → IsCustomOrOutOfMemory x → ts ≡ s ∷ t ∷ more → ReadRejects u y (value_found m absent r ts)
several_exit u y x m absent r ts s t more is h two = passed u x y (value_found m absent r ts) is (found_twice u x m absent r ts s t more h two)
