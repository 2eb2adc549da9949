-- What parsing returns, in terms of tokens.
use Rattle.std.specs.Prelude.{◌≡◌, ◌≢◌, ℕ, ◌≤◌, List, Option, Some, None, option_and_then, Result, Ok, Err}
use Rattle.qs_spec.specs.Token.{Token}
use Rattle.qs_spec.specs.Tree.{Tree}
use Rattle.qs_spec.specs.internal.Parsing.{parsed_pairs}
use Rattle.qs_spec.specs.internal.InPlace.{add_all}
use Rattle.qs_tree.specs.declared.error.Error.{Error}
use Rattle.qs_tree.specs.declared.error.Error.TheVariants.{Parse, OutOfMemory}
use Rattle.qs_tree.specs.declared.parsing.scan_error.ScanError.{ScanError}
use Rattle.qs_tree.specs.declared.parsing.scan_error.ScanError.TheVariants as scan_error

-- the tree after the pairs of some tokens are added to it
abbrev pub grown : ℕ → List Token → Tree → Option Tree
grown depth ts t = option_and_then (λ ps. add_all ps t) (parsed_pairs depth ts)

-- the result is the expected tree, or an error if none is expected; or an allocation failed
abbrev pub FindsTree : {A : Type 0} → (A → Tree) → Option Tree → Result A ScanError → Type 0
FindsTree view expected (Ok a) = expected ≡ Some (view a)
FindsTree view expected (Err e) = e ≢ scan_error.OutOfMemory → expected ≡ None

-- the same for the public error, whose position is at most this one
abbrev pub Returns : {A : Type 0} → (A → Tree) → Option Tree → ℕ → Result A Error → Type 0
Returns view expected bound (Ok a) = expected ≡ Some (view a)
Returns view expected bound (Err (Parse message position)) = (expected ≡ None) × (position ≤ bound)
Returns view expected bound (Err OutOfMemory) = Unit {0}
Returns view expected bound (Err _) = ⊥

-- the public error of a scan error: `Parse` with a position that is at most this one, unless an allocation failed
abbrev pub Reports : ScanError → ℕ → Error → Type 0
Reports e bound (Parse message position) = (e ≢ scan_error.OutOfMemory) × (position ≤ bound)
Reports e bound OutOfMemory = Unit {0}
Reports e bound _ = ⊥
