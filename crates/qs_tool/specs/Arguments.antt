-- What the program's arguments ask for.
use Rattle.std.specs.Prelude.{ℕ, Bool, true, false, cond, ◌||◌, List, [], ◌∷◌, Option, Some, None, option_map, option_and_then, codes}
use Rattle.std.specs.Str.{bytes_eq}
use Rattle.qs_spec.specs.Config.{default}
use Rattle.qs_spec.specs.Scalar.{unsigned_number}
use Rattle.qs_tree.specs.Settings.{array_format_of, duplicates_of}
use Rattle.qs_tree.specs.declared.config.ArrayFormat.{ArrayFormat}
use Rattle.qs_tree.specs.declared.config.ArrayFormat.TheVariants.{Indexed, EmptyIndexed, Unindexed}
use Rattle.qs_tree.specs.declared.config.DuplicateKeyBehavior.{DuplicateKeyBehavior}
use Rattle.qs_tree.specs.declared.config.DuplicateKeyBehavior.TheVariants.{TakeLast, Error}
use Rattle.qs_tool.specs.declared.arguments.Command.{Command}
use Rattle.qs_tool.specs.declared.arguments.Command.TheVariants.{Flat, Params, Any}
use Rattle.qs_tool.specs.declared.arguments.Choice.{Choice}
use Rattle.qs_tool.specs.declared.arguments.Choice.TheVariants.{Form, Strict, Depth, Format, Duplicates}
use Rattle.qs_tool.specs.declared.arguments.Settings.{Settings}
use Rattle.qs_tool.specs.declared.arguments.Request.{Request}

-- an argument, as its bytes
abbrev pub Word : Type 0
Word = List ℕ

-- the command, the array format and the setting for repeated values that have a name
abbrev pub command_named : Word → Option Command
command_named w =
    cond (bytes_eq w (codes "flat")) (Some Flat) (cond (bytes_eq w (codes "params")) (Some Params) (cond (bytes_eq w (codes "any")) (Some Any) None))

abbrev pub format_named : Word → Option ArrayFormat
format_named w =
    cond (bytes_eq w (codes "indexed")) (Some Indexed) (cond (bytes_eq w (codes "empty")) (Some EmptyIndexed) (cond (bytes_eq w (codes "unindexed")) (Some Unindexed) None))

abbrev pub duplicates_named : Word → Option DuplicateKeyBehavior
duplicates_named w = cond (bytes_eq w (codes "last")) (Some TakeLast) (cond (bytes_eq w (codes "error")) (Some Error) None)

-- an option that takes no value
abbrev pub flag_named : Word → Option Choice
flag_named w = cond (bytes_eq w (codes "--form")) (Some Form) (cond (bytes_eq w (codes "--strict")) (Some Strict) None)

-- an option that takes a value
abbrev pub takes_value : Word → Bool
takes_value w = bytes_eq w (codes "--depth") || (bytes_eq w (codes "--format") || bytes_eq w (codes "--duplicates"))

-- an option that takes a value, with this value
abbrev pub valued : Word → Word → Option Choice
valued w value =
    cond (bytes_eq w (codes "--depth")) (option_map Depth (unsigned_number 64 value))
    (cond (bytes_eq w (codes "--format")) (option_map Format (format_named value))
    (cond (bytes_eq w (codes "--duplicates")) (option_map Duplicates (duplicates_named value)) None))

-- an option, if it is one, and those after it
abbrev pub followed : Option Choice → Option (List Choice) → Option (List Choice)
followed None more = None
followed (Some c) more = option_map (λ cs. c ∷ cs) more

-- a flag and the options after it, or where there is no flag, the others
abbrev pub flag_or : Option Choice → Option (List Choice) → Option (List Choice) → Option (List Choice)
flag_or None more others = others
flag_or flag more others = followed flag more

-- the options that some words are, one after the other
abbrev mutual
  pub choices_of : List Word → Option (List Choice)
  choices_of [] = Some []
  choices_of (w ∷ ws) = flag_or (flag_named w) (choices_of ws) (choices_with w ws)

  -- those of an option that takes a value, and of what comes after it
  pub choices_with : Word → List Word → Option (List Choice)
  choices_with w [] = None
  choices_with w (value ∷ ws) = followed (valued w value) (choices_of ws)

-- no option is given
abbrev pub unchosen : Settings
unchosen = record { form = false; strict = false; depth = None; format = None; duplicates = None }

-- what follows, unless there is a value before
abbrev pub unless_given : {A B : Type 0} → Option A → B → Option B
unless_given None after = Some after
unless_given (Some x) after = None

-- options and one more, unless it was given before
abbrev pub choose : Settings → Choice → Option Settings
choose s Form = cond s.form None (Some (record s { form = true }))
choose s Strict = cond s.strict None (Some (record s { strict = true }))
choose s (Depth n) = unless_given s.depth (record s { depth = Some n })
choose s (Format f) = unless_given s.format (record s { format = Some f })
choose s (Duplicates d) = unless_given s.duplicates (record s { duplicates = Some d })

-- options and some more, each given once at most
abbrev pub chosen : Settings → List Choice → Option Settings
chosen s [] = Some s
chosen s (c ∷ cs) = option_and_then (λ t. chosen t cs) (choose s c)

-- the value, or else the first one
abbrev pub or_else : {A : Type 0} → A → Option A → A
or_else x None = x
or_else x (Some y) = y

-- the command with this depth, and the defaults for what wasn't given
abbrev pub request : Command → ℕ → Settings → Request
request command depth s = record {
  command = command;
  strict = s.strict;
  config = record {
    max_depth = depth;
    is_form = s.form;
    array_format = array_format_of (or_else Indexed s.format);
    duplicates = duplicates_of (or_else TakeLast s.duplicates);
  };
}

-- `flat` takes no depth: its own is 0
abbrev pub configured : Command → Settings → Option Request
configured Flat s = unless_given s.depth (request Flat 0 s)
configured Params s = Some (request Params (or_else default.max_depth s.depth) s)
configured Any s = Some (request Any (or_else default.max_depth s.depth) s)

-- what the arguments ask for: a command, and then options in any order, each at most once
abbrev pub asked : List Word → Option Request
asked [] = None
asked (w ∷ ws) =
    option_and_then (λ command. option_and_then (configured command) (option_and_then (chosen unchosen) (choices_of ws))) (command_named w)
