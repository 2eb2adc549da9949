-- What a function of the notation returns.
use Rattle.std.specs.Prelude.{◌≡◌, ⊤, List, ℕ, Result, Ok, Err}
use Rattle.qs_c.specs.Found.{Found, found, fault}
use Rattle.qs_c.specs.declared.notation.stop.Stop.{Stop}
use Rattle.qs_c.specs.declared.notation.stop.Stop.TheVariants.{Fault, OutOfMemory}

-- Parsing stopped at the fault, with the fault's reason, or an allocation failed.
abbrev pub Stops : {B : Type 0} → Found B → Stop → List ℕ → Type 0
Stops expected (Fault reason) rest = expected ≡ fault reason.now rest
Stops expected OutOfMemory rest = ⊤

-- The view of what was returned is what is to be parsed, and `rest` is the text left; or parsing stopped.
abbrev pub Parses : {A B : Type 0} → (A → B) → Found B → Result A Stop → List ℕ → Type 0
Parses view expected (Ok a) rest = expected ≡ found (view a) rest
Parses view expected (Err stop) rest = Stops expected stop rest
