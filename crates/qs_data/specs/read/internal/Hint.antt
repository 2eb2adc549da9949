-- What is reported for a key that can't be read.
use Rattle.std.specs.Prelude.{◌≡◌, ℕ, ◌==◌, ◌++◌, List, Option, option_map, codes}
use Rattle.std.specs.Bool.{MatchBool}
use Rattle.std.specs.List.{list_any}
use Rattle.qs_tree.specs.declared.error.Error.{Error}
use Rattle.qs_tree.specs.Error.{IsCustomSaying, error_text}
use Rattle.qs_data.specs.declared.read.error.ReadError.{ReadError}
use Rattle.qs_data.specs.declared.read.error.ReadError.TheVariants.{OutOfMemory}
use Rattle.qs_data.specs.read.Narrowed.{error_of}

-- the text of an error, and the hint after it
abbrev pub hinted_text : Error → Option (List ℕ)
hinted_text e = option_map (λ text. text ++ codes "\nInvalid field contains an encoded bracket -- consider using form encoding mode\n  https://docs.rs/serde_qs/latest/serde_qs/#query-string-vs-form-encoding") (error_text e)

-- the error with the hint, and that memory ran out as it is
abbrev pub IsHinted : ReadError → ReadError → Type 0
IsHinted OutOfMemory reported = reported ≡ OutOfMemory
IsHinted e reported = IsCustomSaying (error_of reported) (hinted_text (error_of e))

-- the error with the hint if the key holds `[`, and otherwise the error
abbrev pub IsKeyError : List ℕ → ReadError → ReadError → Type 0
IsKeyError key e reported = MatchBool (list_any (λ b. b == 91) key) (IsHinted e reported) (reported ≡ e)
