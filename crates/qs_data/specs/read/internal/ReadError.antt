-- What a function that reads returns, against what the definitions give.
use Rattle.std.specs.Prelude.{◌≡◌, ⊤, Bool, Result, Ok, Err, Option, Some}
use Rattle.qs_data.specs.declared.read.error.ReadError.{ReadError}
use Rattle.qs_data.specs.read.Errors.{IsCustomOrOutOfMemory, IsUtf8OrOutOfMemory}
use Rattle.qs_data.specs.read.Gives.{Rejects}
use Rattle.qs_data.specs.read.Narrowed.{error_of}
use Rattle.qs_data.specs.read.internal.Frugal.{RunsOutOnlyToReject}

-- each of these says the same of the error that a caller sees
abbrev pub ReadIsCustom : ReadError → Type 0
ReadIsCustom e = IsCustomOrOutOfMemory (error_of e)

abbrev pub ReadIsUtf8 : ReadError → Type 0
ReadIsUtf8 e = IsUtf8OrOutOfMemory (error_of e)

abbrev pub ReadRejects : {Y : Type 0} → Bool → ReadError → Option Y → Type 0
ReadRejects all_text e r = Rejects all_text (error_of e) r

abbrev pub ReadGives : {X Y : Type 0} → (X → Y) → Bool → Result X ReadError → Option Y → Type 0
ReadGives view all_text (Ok x) r = r ≡ Some (view x)
ReadGives view all_text (Err e) r = ReadRejects all_text e r

abbrev pub ReadRunsOutOnlyToReject : {Y : Type 0} → ReadError → Option Y → Type 0
ReadRunsOutOnlyToReject e r = RunsOutOnlyToReject (error_of e) r

abbrev pub ReadIsFrugal : {X Y : Type 0} → Result X ReadError → Option Y → Type 0
ReadIsFrugal (Ok x) r = ⊤
ReadIsFrugal (Err e) r = ReadRunsOutOnlyToReject e r
