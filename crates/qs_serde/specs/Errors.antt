-- The errors of the steps.
use Rattle.std.specs.Prelude.{◌≡◌, ⊤, Bool, false, Result, IfErr}
use Rattle.qs_spec.specs.Tree.{Tree}
use Rattle.qs_data.specs.declared.read.error.ReadError.{ReadError}
use Rattle.qs_data.specs.declared.read.error.ReadError.TheVariants.{Custom, Utf8, OutOfMemory}
use Rattle.qs_data.specs.read.TreeText.{is_text}

-- The error is `Custom`, or an allocation failed; or it is `Utf8`, and what was read isn't all text.
abbrev pub IsStepError : Bool → ReadError → Type 0
IsStepError all_text (Custom message) = ⊤
IsStepError all_text (Utf8 cause) = all_text ≡ false
IsStepError all_text OutOfMemory = ⊤

-- If a step fails, it is with such an error of reading this tree.
abbrev pub FailsOn : {A : Type 0} → Tree → Result A ReadError → Type 0
FailsOn tree result = IfErr result (IsStepError (is_text tree))
