-- What is read as JSON, what is written from JSON, and why a call fails.
use Rattle.std.specs.Prelude.{◌≡◌, ◌+◌, ◌≤◌, ◌&&◌, ℕ, List, length, true, false, Some, None}
use Rattle.std.specs.Str.{IsUtf8}
use Rattle.json.specs.Json.{document}
use Rattle.qs_spec.specs.Config.{Config}
use Rattle.qs_spec.specs.Data.{Data}
use Rattle.qs_spec.specs.Entry.{entries, too_deep, bad_key}
use Rattle.qs_spec.specs.Relation.{ReadsBy, ReadsNothing}
use Rattle.qs_spec.specs.Shape.{Shape}
use Rattle.qs_spec.specs.Tree.{Tree, IsTree, HasNoTree}
use Rattle.qs_spec.specs.Written.{written}
use Rattle.qs_data.specs.read.TreeText.{is_text}
use Rattle.qs_c.specs.declared.failure.FailureKind.{FailureKind}
use Rattle.qs_c.specs.declared.failure.FailureKind.TheVariants as kind
use Rattle.qs_c.specs.declared.settings.Settings.{Settings}
use Rattle.qs_c.specs.Limits.{IsBeyond, IsTooLarge}
use Rattle.qs_c.specs.Notation.{IsNotation, IsNoNotation}
use Rattle.qs_c.specs.Settings.{config_of, AreNone}
use Rattle.qs_c.specs.Shown.{json_text}
use Rattle.qs_c.specs.Taken.{IsJsonOf}
use Rattle.qs_c.specs.Trees.{has_names, tree_text}

-- the input has a tree, of which this holds
abbrev pub HasTree : Config → List ℕ → (Tree → Type 0) → Type 0
HasTree config input P = (tree : Tree) × IsTree config.is_form config.max_depth input tree × P tree

-- the shape reads the data from the input's tree
abbrev pub IsReadBy : Config → Shape → List ℕ → Data → Type 0
IsReadBy config shape input x = HasTree config input (λ tree. ReadsBy config shape tree x)

-- the text is the JSON of the data that the shape reads
abbrev pub IsRead : Config → Shape → List ℕ → List ℕ → Type 0
IsRead config shape input text = (x : Data) × IsReadBy config shape input x × (text ≡ json_text x)

-- the same for the shape that this text is
abbrev pub IsReadByText : Config → List ℕ → List ℕ → List ℕ → Type 0
IsReadByText config notation input text = (shape : Shape) × IsNotation notation shape × IsRead config shape input text

-- the shape reads nothing from the input's tree
abbrev pub IsUnread : Config → Shape → List ℕ → Type 0
IsUnread config shape input = HasTree config input (ReadsNothing config shape)

-- the input has no tree, and the position is at most one beyond its end
abbrev pub IsRejected : Config → List ℕ → ℕ → Type 0
IsRejected config input position = HasNoTree config.is_form config.max_depth input × (position ≤ length input + 1)

-- what holds if an input isn't read, with an error of this kind at this position; only a syntax error has a position other than 0
abbrev pub WhyUnread : FailureKind → ℕ → Config → Shape → List ℕ → Type 0
WhyUnread kind.OutOfMemory position config shape input = position ≡ 0
WhyUnread kind.Parse position config shape input = IsRejected config input position
WhyUnread kind.Mismatch position config shape input = (position ≡ 0) × IsUnread config shape input
WhyUnread kind.NotUtf8 position config shape input = (position ≡ 0) × IsUnread config shape input
WhyUnread _ position config shape input = ⊥

-- the same if it is read as JSON, which may have at most `most` bytes
abbrev pub WhyNoJson : FailureKind → ℕ → Config → (most : ℕ) → Shape → List ℕ → Type 0
WhyNoJson kind.TooLong position config most shape input = (position ≡ 0) × ((text : List ℕ) × IsRead config shape input text × IsBeyond most (length text))
WhyNoJson k position config most shape input = WhyUnread k position config shape input

-- the text is the JSON of the input's tree, whose texts are UTF-8, and whose objects have no name twice
abbrev pub IsParsed : Config → List ℕ → List ℕ → Type 0
IsParsed config input text = HasTree config input (λ tree. (is_text tree ≡ true) × (has_names tree ≡ true) × (text ≡ tree_text tree))

-- what holds if no JSON is made of an input's tree, with an error of this kind at this position
abbrev pub WhyUnparsed : FailureKind → ℕ → Config → List ℕ → Type 0
WhyUnparsed kind.OutOfMemory position config input = position ≡ 0
WhyUnparsed kind.Parse position config input = IsRejected config input position
WhyUnparsed kind.Mismatch position config input = (position ≡ 0) × HasTree config input (λ tree. (is_text tree && has_names tree) ≡ false)
WhyUnparsed kind.NotUtf8 position config input = (position ≡ 0) × HasTree config input (λ tree. is_text tree ≡ false)
WhyUnparsed _ position config input = ⊥

-- the same with the settings and the limits
abbrev pub WhyNotParsed : FailureKind → ℕ → Settings → List ℕ → Type 0
WhyNotParsed kind.Settings position settings input = (position ≡ 0) × AreNone settings
WhyNotParsed kind.TooLarge position settings input = (position ≡ 0) × IsTooLarge settings input
WhyNotParsed kind.TooLong position settings input = (position ≡ 0) × ((text : List ℕ) × IsParsed (config_of settings) input text × IsBeyond settings.max_output (length text))
WhyNotParsed k position settings input = WhyUnparsed k position (config_of settings) input

-- the same if it is read by the shape that this text is
abbrev pub WhyNotRead : FailureKind → ℕ → Settings → List ℕ → List ℕ → Type 0
WhyNotRead kind.OutOfMemory position settings notation input = position ≡ 0
WhyNotRead kind.Settings position settings notation input = (position ≡ 0) × AreNone settings
WhyNotRead kind.TooLarge position settings notation input = (position ≡ 0) × IsTooLarge settings input
WhyNotRead kind.Shape position settings notation input = (reason : List ℕ) × IsNoNotation notation reason position
WhyNotRead k position settings notation input = (shape : Shape) × IsNotation notation shape × WhyNoJson k position (config_of settings) settings.max_output shape input

-- the JSON is data whose entries are written as the text
pub record IsWritten (config : Config) (json text : List ℕ) : Type 0 where
  pub value : Data
  pub is_value : IsJsonOf json value
  pub is_whole : (entries config value).error ≡ None
  pub is_text : text ≡ written config.is_form false (entries config value).entries

-- what holds if data isn't written, with an error of this kind at this position
abbrev pub WhyUnwritten : FailureKind → ℕ → Config → Data → Type 0
WhyUnwritten kind.OutOfMemory position config x = position ≡ 0
WhyUnwritten kind.TooDeep position config x = (position ≡ 0) × ((entries config x).error ≡ Some too_deep)
WhyUnwritten kind.Mismatch position config x = (position ≡ 0) × ((entries config x).error ≡ Some bad_key)
WhyUnwritten _ position config x = ⊥

-- what holds if JSON isn't written, with an error of this kind at this position
abbrev pub WhyNotWritten : FailureKind → ℕ → Settings → List ℕ → Type 0
WhyNotWritten kind.OutOfMemory position settings json = position ≡ 0
WhyNotWritten kind.Settings position settings json = (position ≡ 0) × AreNone settings
WhyNotWritten kind.Json position settings json = IsUtf8 json → document json ≡ None
WhyNotWritten k position settings json = (x : Data) × IsJsonOf json x × WhyUnwritten k position (config_of settings) x
