-- What the program writes, and the status that it ends with.
use Rattle.std.specs.Prelude.{◌≡◌, ℕ, ◌-◌, ◌<◌, ◌==◌, List, [], ◌∷◌, ◌++◌, ◌⊎◌, length, take, slice_index, if◌then◌else◌, false, Option, Some, None, IfSome, codes}
use Rattle.std.specs.Io.KnownBytes.{IsAtEnd}
use Rattle.qs_spec.specs.Config.{Config}
use Rattle.qs_spec.specs.Data.{Data}
use Rattle.qs_spec.specs.Shape.{Shape}
use Rattle.qs_spec.specs.Tree.{Tree, IsTree, HasNoTree}
use Rattle.qs_spec.specs.Relation.{ReadsBy, ReadsNothing}
use Rattle.qs_spec.specs.Entry.{EntryError, entries}
use Rattle.qs_spec.specs.Written.{written}
use Rattle.qs_tree.specs.declared.error.Error.{Error}
use Rattle.qs_tree.specs.Error.{error_text}
use Rattle.qs_tool.specs.declared.arguments.Command.{Command}
use Rattle.qs_tool.specs.declared.arguments.Command.TheVariants.{Flat, Params, Any}
use Rattle.qs_tool.specs.declared.arguments.Request.{Request}
use Rattle.qs_tool.specs.Arguments.{Word, asked}
use Rattle.qs_tool.specs.Shapes.{shape_for}
use Rattle.qs_tool.specs.Shown.{shown}

-- one final newline is no part of the input
abbrev pub without_newline : List ℕ → List ℕ
without_newline xs = if slice_index xs (length xs - 1) == 10 then take (length xs - 1) xs else xs

-- a line of this text
abbrev pub ended : List ℕ → List ℕ
ended text = text ++ 10 ∷ []

-- what is written where the arguments are wrong, and where an allocation failed
abbrev pub usage_line : List ℕ
usage_line = ended (codes "usage: qs_tool flat|params|any [--form] [--strict] [--depth N] [--format indexed|empty|unindexed] [--duplicates last|error]")

abbrev pub memory_line : List ℕ
memory_line = ended (codes "error: out of memory")

-- the line of an error, whose text is left open
abbrev pub IsErrorLine : List ℕ → Type 0
IsErrorLine line = (text : List ℕ) × (line ≡ ended (codes "error: " ++ text))

-- the line of this error, where its text is known
abbrev pub IsLineOfError : Error → List ℕ → Type 0
IsLineOfError error line = IfSome (error_text error) (λ text. line ≡ ended (codes "error: " ++ text))

-- the text, unless an entry is rejected
abbrev pub unless_rejected : Option EntryError → List ℕ → Option (List ℕ)
unless_rejected None text = Some text
unless_rejected (Some error) text = None

-- the querystring that the data are written as, unless they are rejected
abbrev pub rewritten : Config → Data → Option (List ℕ)
rewritten config value = unless_rejected (entries config value).error (written config.is_form false (entries config value).entries)

-- what a command prints of the data that it read: `any` shows them, the others write them as a querystring again
abbrev pub printed : Command → Config → Data → Option (List ℕ)
printed Flat config value = rewritten config value
printed Params config value = rewritten config value
printed Any config value = Some (shown value)

-- the input has a tree, from which the shape reads data, which are printed as the text
pub record IsPrintedBy (config : Config) (shape : Shape) (print : Data → Option (List ℕ)) (input text : List ℕ) : Type 0 where
  pub tree : Tree
  pub value : Data
  pub has_tree : IsTree config.is_form config.max_depth input tree
  pub is_read : ReadsBy config shape tree value
  pub is_text : print value ≡ Some text

-- the input has no tree, or the shape reads nothing from it, or what it reads isn't printed
pub data IsFaultyBy (config : Config) (shape : Shape) (print : Data → Option (List ℕ)) (input : List ℕ) : Type 0 where
  no_tree : HasNoTree config.is_form config.max_depth input → IsFaultyBy config shape print input
  not_read : (tree : Tree) → IsTree config.is_form config.max_depth input tree → ReadsNothing config shape tree → IsFaultyBy config shape print input
  not_printed : (tree : Tree) (value : Data) → IsTree config.is_form config.max_depth input tree → ReadsBy config shape tree value → print value ≡ None
      → IsFaultyBy config shape print input

-- the same by the command's shape, and printed as the command does
abbrev pub IsPrinted : Request → List ℕ → List ℕ → Type 0
IsPrinted request input text = IsPrintedBy request.config (shape_for request.command request.strict) (printed request.command request.config) input text

abbrev pub IsFaulty : Request → List ℕ → Type 0
IsFaulty request input = IsFaultyBy request.config (shape_for request.command request.strict) (printed request.command request.config) input

-- what is printed, with status 0, or an error, with status 1
abbrev pub IsAnswer : Request → List ℕ → List ℕ → ℕ → Type 0
IsAnswer request input line status =
    ((text : List ℕ) × IsPrinted request input text × (line ≡ ended text) × (status ≡ 0))
    ⊎ (IsFaulty request input × IsErrorLine line × (status ≡ 1))

-- the result of what is asked for, or where the arguments are wrong, the usage line with status 2
abbrev pub IsLineOf : Option Request → List ℕ → List ℕ → ℕ → Type 0
IsLineOf None input line status = (line ≡ usage_line) × (status ≡ 2)
IsLineOf (Some request) input line status = IsAnswer request (without_newline input) line status

-- the line and the status for the arguments and the input
abbrev pub IsLine : List Word → List ℕ → List ℕ → ℕ → Type 0
IsLine words input line status = IsLineOf (asked words) input line status

-- so many bytes of a line that a run writes and then ends with status 3: of the line that says that an allocation failed, or of the right one, which isn't
-- written whole, and is only begun where the input was read to its end or not asked for
abbrev pub IsBegun : List Word → List ℕ → Option (List ℕ) → List ℕ → ℕ → Type 0
IsBegun words input left line n =
    (line ≡ memory_line)
    ⊎ ((n < length line) × ((asked words ≡ None) ⊎ IsAtEnd left) × ((status : ℕ) × IsLine words input line status))
