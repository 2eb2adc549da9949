-- What is wrong with arguments that ask for nothing.
use Rattle.std.specs.Prelude.{◌≡◌, ℕ, true, false, List, [], ◌∷◌, Option, Some, None, option_and_then}
use Rattle.qs_tool.specs.declared.arguments.Choice.{Choice}
use Rattle.qs_tool.specs.declared.arguments.Settings.{Settings}
use Rattle.qs_tool.specs.declared.arguments.Command.TheVariants.{Flat}
use Rattle.qs_tool.specs.declared.misuse.Misuse.{Misuse}
use Rattle.qs_tool.specs.declared.misuse.Misuse.TheVariants.{NoCommand, UnknownCommand, UnknownOption, Value, Twice, DepthOfFlat}
use Rattle.qs_tool.specs.Arguments.{Word, command_named, flag_named, valued, takes_value, choices_of, choose, chosen, unchosen}

-- The words begin with options, each given once, that make these settings; and then come these others.
pub data BeginsWith (words : List Word) : Settings → List Word → Type 0 where
  no_option : BeginsWith words unchosen words
  one_flag : (s t : Settings) (c : Choice) (w : Word) (rest : List Word) → BeginsWith words s (w ∷ rest)
      → flag_named w ≡ Some c → choose s c ≡ Some t → BeginsWith words t rest
  one_valued : (s t : Settings) (c : Choice) (w value : Word) (rest : List Word) → BeginsWith words s (w ∷ value ∷ rest)
      → valued w value ≡ Some c → choose s c ≡ Some t → BeginsWith words t rest

-- what an option means: a flag by itself, any other with the word after it
abbrev pub flag_or_valued : Option Choice → Word → List Word → Option Choice
flag_or_valued None w [] = None
flag_or_valued None w (value ∷ rest) = valued w value
flag_or_valued flag w rest = flag

-- the option that a word is, by itself or with the word after it
abbrev pub option_at : Word → List Word → Option Choice
option_at w rest = flag_or_valued (flag_named w) w rest

-- after options that are right comes this word, which is wrong there
pub record IsWrongAt (words : List Word) (w : Word) (Wrong : Settings → List Word → Type 0) : Type 0 where
  pub settings : Settings
  pub rest : List Word
  pub begins : BeginsWith words settings (w ∷ rest)
  pub wrong : Wrong settings rest

-- the misuse that options show: the first of them that is wrong
abbrev pub IsWrongOption : List Word → Misuse → Type 0
IsWrongOption words (UnknownOption name) = IsWrongAt words name.now (λ s rest. (flag_named name.now ≡ None) × (takes_value name.now ≡ false))
IsWrongOption words (Value name) = IsWrongAt words name.now (λ s rest. (takes_value name.now ≡ true) × (option_at name.now rest ≡ None))
IsWrongOption words (Twice name) = IsWrongAt words name.now (λ s rest. (c : Choice) × (option_at name.now rest ≡ Some c) × (choose s c ≡ None))
IsWrongOption words _ = ⊥

-- the misuse that arguments show, the first one
abbrev pub IsMisuse : List Word → Misuse → Type 0
IsMisuse words NoCommand = words ≡ []
IsMisuse words (UnknownCommand name) = (rest : List Word) × (words ≡ name.now ∷ rest) × (command_named name.now ≡ None)
IsMisuse words DepthOfFlat = (name : Word) × (options : List Word) × (s : Settings) × (n : ℕ) × (words ≡ name ∷ options) × (command_named name ≡ Some Flat)
    × (option_and_then (chosen unchosen) (choices_of options) ≡ Some s) × (s.depth ≡ Some n)
IsMisuse words misuse = (name : Word) × (options : List Word) × (words ≡ name ∷ options) × IsWrongOption options misuse
