-- An explanation as a line, and why there is none.
use Rattle.std.specs.Prelude.{◌≡◌, ℕ, false, List, [], ◌∷◌, ◌++◌, length, map, Option, Some, None, Ok}
use Rattle.std.specs.declared.alloc.AllocError.{AllocError}
use Rattle.qs_spec.specs.Config.{Config}
use Rattle.qs_spec.specs.Segment.{segment_text}
use Rattle.qs_spec.specs.Shape.{Shape}
use Rattle.qs_spec.specs.Written.{path_text}
use Rattle.qs_data.specs.failure.Mismatch.{path_of}
use Rattle.qs_explain.specs.Explains.{Explains, ExplainsUnread}
use Rattle.qs_explain.specs.Fields.{ExplainsFields}
use Rattle.qs_explain.specs.declared.explanation.Explanation.{Explanation}
use Rattle.qs_explain.specs.declared.explanation.Explanation.TheVariants.{Mismatch}
use Rattle.qs_c.specs.declared.failure.FailureKind.{FailureKind}
use Rattle.qs_c.specs.declared.failure.FailureKind.TheVariants as kind
use Rattle.qs_c.specs.declared.settings.Settings.{Settings}
use Rattle.qs_c.specs.Limits.{IsTooLarge}
use Rattle.qs_c.specs.Notation.{IsNotation, IsNoNotation}
use Rattle.qs_c.specs.Settings.{AreNone}

-- The line begins with the path, which has `len` bytes.
pub record StartsWith (path line : List ℕ) (len : ℕ) : Type 0 where
  pub len_is : len ≡ length path
  pub rest : List ℕ
  pub text : line ≡ path ++ rest

-- If a part isn't read, the line begins with the path to it, written as a key. Otherwise the path is empty. If there is no explanation,
-- the line is empty too.
abbrev pub IsLine : Option Explanation → List ℕ → ℕ → Type 0
IsLine None line len = (line ≡ []) × (len ≡ 0)
IsLine (Some (Mismatch m)) line len = StartsWith (path_text false (map segment_text (path_of m))) line len
IsLine (Some _) line len = len ≡ 0

-- The notation is a shape, and the line explains why that shape doesn't read the input.
pub record IsExplained (config : Config) (notation input line : List ℕ) (len : ℕ) : Type 0 where
  pub shape : Shape
  pub is_shape : IsNotation notation shape
  pub explanation : Option Explanation
  pub explains : Explains {E = AllocError} config shape input (Ok explanation)
  pub related : ExplainsUnread {E = AllocError} config shape input (Ok explanation)
  pub is_line : IsLine explanation line len

-- the line of each explanation, one after another, each with a line feed after it
abbrev pub AreLines : List Explanation → List ℕ → Type 0
AreLines [] text = text ≡ []
AreLines (x ∷ xs) text = (line : List ℕ) × (len : ℕ) × (rest : List ℕ) × IsLine (Some x) line len × AreLines xs rest × (text ≡ line ++ 10 ∷ rest)

-- The notation is a shape, and the lines explain each field that that shape doesn't read.
pub record AreExplained (config : Config) (notation input text : List ℕ) : Type 0 where
  pub shape : Shape
  pub is_shape : IsNotation notation shape
  pub explanations : List Explanation
  pub explains : ExplainsFields config shape input explanations
  pub are_lines : AreLines explanations text

-- what holds if the call fails with an error of this kind at this position
abbrev pub WhyNotExplained : FailureKind → ℕ → Settings → List ℕ → List ℕ → Type 0
WhyNotExplained kind.OutOfMemory position settings notation input = position ≡ 0
WhyNotExplained kind.Settings position settings notation input = (position ≡ 0) × AreNone settings
WhyNotExplained kind.TooLarge position settings notation input = (position ≡ 0) × IsTooLarge settings input
WhyNotExplained kind.Shape position settings notation input = (reason : List ℕ) × IsNoNotation notation reason position
WhyNotExplained _ position settings notation input = ⊥
