-- Lists of whole numbers in one text, as fields of a struct.
use Rattle.std.specs.Prelude.{◌≡◌, ◌<◌, ℕ, ◌==◌, Bool, true, false, not, ◌&&◌, List, length, map, Option, Some}
use Rattle.std.specs.List.{All, list_all}
use Rattle.std.specs.Str.{IsUtf8, chars}
use lib.Utf8.{scalar}
use Rattle.qs_spec.specs.Data.{Data}
use Rattle.qs_spec.specs.Data.Data.{text}
use Rattle.qs_spec.specs.Escape.{is_between}
use Rattle.serde_qs.specs.Fitting.{only_where}
use Rattle.serde_qs.specs.Items.{joined}

-- a character that is neither a digit nor `-`
abbrev pub is_number_delimiter : ℕ → Bool
is_number_delimiter c = scalar c && (not (is_between 48 57 c) && not (c == 45))

-- a text of at least one byte, and without the delimiter
pub record IsPiece (delimiter : ℕ) (t : List ℕ) : Type 0 where
  pub is_text : IsUtf8 t
  pub other : All (λ c. (c == delimiter) ≡ false) (chars t)
  pub some : 0 < length t

-- the item's text is such a piece, and is parsed as what the item holds
pub record NumberComesBack {A V : Type 0} (meaning : List ℕ → Option V) (printed : A → List ℕ) (value : A → V) (delimiter : ℕ) (x : A) : Type 0 where
  pub back : meaning (printed x) ≡ Some (value x)
  pub piece : IsPiece delimiter (printed x)

-- the data of a list, if each item is in range, as in every list of a program
abbrev pub list_data : {A : Type 0} → (A → Bool) → (A → List ℕ) → ℕ → List A → Data
list_data in_range printed delimiter xs = only_where (list_all in_range xs) (text (joined delimiter (map printed xs)))

-- each item in range comes back, whatever delimiter of numbers follows it
abbrev pub NumbersComeBack : {A V : Type 0} → (A → Bool) → (List ℕ → Option V) → (A → List ℕ) → (A → V) → Type 0
NumbersComeBack {A} in_range meaning printed value = (delimiter : ℕ) (x : A) → is_number_delimiter delimiter ≡ true → in_range x ≡ true → NumberComesBack meaning printed value delimiter x
