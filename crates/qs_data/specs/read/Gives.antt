-- What a reader of the code returns, against what the definitions give.
use Rattle.std.specs.Prelude.{◌≡◌, ⊤, Bool, false, Result, Ok, Err, Option, Some, None}
use Rattle.qs_tree.specs.declared.error.Error.{Error}
use Rattle.qs_tree.specs.declared.error.Error.TheVariants.{Custom, Utf8, OutOfMemory}

-- The error says that there is nothing to return, or that an allocation failed. It is `Utf8` only if not all that was read is
-- text.
abbrev pub Rejects : {Y : Type 0} → Bool → Error → Option Y → Type 0
Rejects all_text (Custom message) r = r ≡ None
Rejects all_text (Utf8 cause) r = (r ≡ None) × (all_text ≡ false)
Rejects all_text OutOfMemory r = ⊤
Rejects all_text _ r = ⊥

-- seen by view, what was returned is what there is to return
abbrev pub Gives : {X Y : Type 0} → (X → Y) → Bool → Result X Error → Option Y → Type 0
Gives view all_text (Ok x) r = r ≡ Some (view x)
Gives view all_text (Err e) r = Rejects all_text e r
