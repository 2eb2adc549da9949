-- What the program says of itself.
use Rattle.std.specs.Prelude.{◌≡◌, ℕ, List, [], ◌∷◌, ◌++◌, cond, Option, Some, None, codes}
use Rattle.std.specs.Str.{bytes_eq}
use Rattle.qs_tool.specs.declared.information.Information.{Information}
use Rattle.qs_tool.specs.declared.information.Information.TheVariants.{Help, Version}
use Rattle.qs_tool.specs.Arguments.{Word}
use Rattle.qs_tool.specs.Line.{ended, usage_line}

abbrev pub information_named : Word → Option Information
information_named w = cond (bytes_eq w (codes "--help")) (Some Help) (cond (bytes_eq w (codes "--version")) (Some Version) None)

-- `--help` or `--version`, where it is the only argument
abbrev pub information_asked : List Word → Option Information
information_asked (w ∷ []) = information_named w
information_asked _ = None

-- the help begins with the usage line, and what follows is left open; the version is a line
abbrev pub IsInformation : Information → List ℕ → Type 0
IsInformation Help text = (explanation : List ℕ) × (text ≡ usage_line ++ explanation)
IsInformation Version text = text ≡ ended (codes "qs_tool 1.1.3")
