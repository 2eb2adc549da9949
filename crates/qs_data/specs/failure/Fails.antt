-- What a reader returns that says which part isn't read.
use Rattle.std.specs.Prelude.{◌≡◌, ⊤, Bool, Result, Ok, Err, Option, Some}
use Rattle.qs_spec.specs.Shape.{Shape}
use Rattle.qs_spec.specs.Tree.{Tree}
use Rattle.qs_tree.specs.declared.error.Error.{Error}
use Rattle.qs_tree.specs.declared.error.Error.TheVariants as e
use Rattle.qs_data.specs.declared.failure.failure.Failure.{Failure}
use Rattle.qs_data.specs.declared.failure.failure.Failure.TheVariants.{Unread, OutOfMemory}
use Rattle.qs_data.specs.failure.Mismatch.{IsMismatch}
use Rattle.qs_data.specs.read.Gives.{Rejects}
use Rattle.qs_data.specs.read.Narrowed.{error_of}

-- the error without its place
abbrev pub error_in : Failure → Error
error_in (Unread b) = error_of b.value.error
error_in OutOfMemory = e.OutOfMemory

-- seen by view, what was returned is what there is to return
abbrev pub GivesOrFails : {X Y : Type 0} → (X → Y) → Bool → Result X Failure → Option Y → Type 0
GivesOrFails view all_text (Ok x) r = r ≡ Some (view x)
GivesOrFails view all_text (Err f) r = Rejects all_text (error_in f) r

-- the failure names a part that isn't read, unless memory ran out
abbrev pub Fails : Bool → Shape → Tree → Failure → Type 0
Fails reject_duplicates s n (Unread b) = IsMismatch reject_duplicates s n b.value.mismatch
Fails reject_duplicates s n OutOfMemory = ⊤
