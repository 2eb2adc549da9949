-- When reading doesn't allocate.
use Rattle.std.specs.Prelude.{◌≡◌, ⊤, Result, Ok, Err, Option, None}
use Rattle.qs_tree.specs.declared.error.Error.{Error}
use Rattle.qs_tree.specs.declared.error.Error.TheVariants.{OutOfMemory}

-- the error says that memory ran out only if there is nothing to return
abbrev pub RunsOutOnlyToReject : {Y : Type 0} → Error → Option Y → Type 0
RunsOutOnlyToReject OutOfMemory r = r ≡ None
RunsOutOnlyToReject _ r = ⊤

-- memory runs out only if there is nothing to return
abbrev pub IsFrugal : {X Y : Type 0} → Result X Error → Option Y → Type 0
IsFrugal (Ok x) r = ⊤
IsFrugal (Err e) r = RunsOutOnlyToReject e r
