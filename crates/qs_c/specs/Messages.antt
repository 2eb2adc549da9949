-- What the text of an error says.
use Rattle.std.specs.Prelude.{◌≡◌, ⊤, ℕ, nat_lt, cond, List, [], length, codes}
use Rattle.std.specs.Str.{is_utf8}
use Rattle.qs_tree.specs.declared.error.Error.{Error}
use Rattle.qs_tree.specs.declared.error.Error.TheVariants as e
use Rattle.qs_c.specs.declared.failure.FailureKind.{FailureKind}
use Rattle.qs_c.specs.declared.failure.FailureKind.TheVariants as kind
use Rattle.qs_c.specs.declared.settings.Settings.{Settings}
use Rattle.qs_c.specs.Errors.{kind_of, position_of, IsTextOf}
use Rattle.qs_c.specs.Limits.{is_beyond}
use Rattle.qs_c.specs.Settings.{most_levels}

-- of a number that isn't an array format
abbrev pub array_format_text : List ℕ
array_format_text = codes "array_format is none of 0, 1 and 2"

-- of settings with a number that is too large: the depth is tested first, then `reserved`
abbrev pub settings_text : Settings → List ℕ
settings_text s = cond (nat_lt most_levels s.max_depth) (codes "max_depth is more than 100") (cond (nat_lt 0 s.reserved) (codes "reserved is not 0") array_format_text)

-- of a querystring that is too large: the length is tested first
abbrev pub too_large_text : Settings → List ℕ → List ℕ
too_large_text s input = cond (is_beyond s.max_length (length input)) (codes "the querystring has more bytes than max_length") (codes "the querystring has more pairs than max_pairs")

-- of JSON that is too long
abbrev pub too_long_text : List ℕ
too_long_text = codes "the JSON has more bytes than max_output"

-- of a path that leads nowhere
abbrev pub absent_text : List ℕ
absent_text = codes "nothing is at the path"

-- of a path that isn't a key
abbrev pub no_path_text : List ℕ
no_path_text = codes "the path is not a key"

-- of a text that can't be read as JSON
abbrev pub not_json_text : List ℕ → List ℕ
not_json_text json = cond (is_utf8 json) (codes "the JSON is invalid") (codes "the JSON isn't UTF-8")

-- An error of qs_tree has this kind, position and text.
pub record IsErrorText (k : FailureKind) (position : ℕ) (text : List ℕ) : Type 0 where
  pub error : Error
  pub is_kind : k ≡ kind_of error
  pub is_position : position ≡ position_of error
  pub is_text : IsTextOf error text

-- the text of an error of this kind at this position, if reading an input fails
abbrev pub SaysUnread : FailureKind → ℕ → List ℕ → Type 0
SaysUnread kind.OutOfMemory position text = text ≡ []
SaysUnread kind.Parse position text = IsErrorText kind.Parse position text
SaysUnread kind.Mismatch position text = IsErrorText kind.Mismatch position text
SaysUnread kind.NotUtf8 position text = IsErrorText kind.NotUtf8 position text
SaysUnread kind.TooLong position text = text ≡ too_long_text
SaysUnread kind.Absent position text = text ≡ absent_text
SaysUnread _ position text = ⊥

-- the same, with the errors of the settings, the limits, the shape and the path; `IsNoNotation` says the text of a shape's error
abbrev pub SaysNotRead : FailureKind → ℕ → Settings → List ℕ → List ℕ → Type 0
SaysNotRead kind.Settings position settings input text = text ≡ settings_text settings
SaysNotRead kind.TooLarge position settings input text = text ≡ too_large_text settings input
SaysNotRead kind.Shape position settings input text = ⊤
SaysNotRead kind.Path position settings input text = text ≡ no_path_text
SaysNotRead k position settings input text = SaysUnread k position text

-- the text of an error of this kind, if writing data fails
abbrev pub SaysUnwritten : FailureKind → ℕ → List ℕ → Type 0
SaysUnwritten kind.OutOfMemory max_depth text = text ≡ []
SaysUnwritten kind.TooDeep max_depth text = IsTextOf (e.MaxSerializationDepthExceeded max_depth) text
SaysUnwritten kind.Mismatch max_depth text = IsTextOf e.Unsupported text
SaysUnwritten _ max_depth text = ⊥

-- the text of an error of this kind, if writing JSON fails
abbrev pub SaysNotWritten : FailureKind → Settings → List ℕ → List ℕ → Type 0
SaysNotWritten kind.Settings settings json text = text ≡ settings_text settings
SaysNotWritten kind.Json settings json text = text ≡ not_json_text json
SaysNotWritten k settings json text = SaysUnwritten k settings.max_depth text
