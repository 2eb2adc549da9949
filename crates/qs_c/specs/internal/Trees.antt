-- Whether a part of a tree is written as JSON.
use Rattle.std.specs.Prelude.{◌≡◌, ⊤, Bool, true, false, ◌&&◌, Result, Ok, Err}
use Rattle.qs_data.specs.declared.read.error.ReadError.{ReadError}
use Rattle.qs_data.specs.declared.read.error.ReadError.TheVariants.{Custom, Utf8, OutOfMemory}

-- the error says that a text isn't UTF-8, or that this is so or two keys have one text
abbrev pub Fails : (text names : Bool) → ReadError → Type 0
Fails text names (Custom message) = (text && names) ≡ false
Fails text names (Utf8 cause) = text ≡ false
Fails text names OutOfMemory = ⊤

-- it is written if its texts are UTF-8 and it has names; otherwise the error says which isn't so
abbrev pub Passes : {A : Type 0} → (text names : Bool) → Result A ReadError → Type 0
Passes text names (Ok a) = (text ≡ true) × (names ≡ true)
Passes text names (Err e) = Fails text names e
