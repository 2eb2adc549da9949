-- What the calls that read return, whatever the type's own code does.
use Rattle.std.specs.Prelude.{ℕ, ◌≤◌, ◌+◌, ⊤, List, length, Result, MatchResult}
use Rattle.qs_spec.specs.Config.{Config}
use Rattle.qs_spec.specs.Tree.{Tree, IsTree, HasNoTree}
use Rattle.qs_tree.specs.declared.error.Error.{Error}
use Rattle.qs_tree.specs.declared.error.Error.TheVariants.{Custom, Parse, Utf8, OutOfMemory}
use Rattle.qs_serde.specs.declared.reading.path_error.PathError.{PathError}

-- the input has a tree under a configuration
abbrev pub HasTree : Config → List ℕ → Type 0
HasTree config input = (tree : Tree) × IsTree config.is_form config.max_depth input tree

-- If the input has no tree, the error is `Parse`, at a position of at most the length plus one. If it has a tree, the error is `Custom` or
-- `Utf8`. Or an allocation failed.
abbrev pub IsErrorOf : Config → List ℕ → Error → Type 0
IsErrorOf config input (Parse message position) = HasNoTree config.is_form config.max_depth input × (position ≤ length input + 1)
IsErrorOf config input (Custom message) = HasTree config input
IsErrorOf config input (Utf8 cause) = HasTree config input
IsErrorOf config input OutOfMemory = ⊤
IsErrorOf config input _ = ⊥

-- a value is returned only if the input has a tree
abbrev pub ReturnsFrom : {X : Type 0} → Config → List ℕ → Result X Error → Type 0
ReturnsFrom config input result = MatchResult result (λ _. HasTree config input) (IsErrorOf config input)

-- the same with the path of an error
abbrev pub ExplainsFrom : {X : Type 0} → Config → List ℕ → Result X PathError → Type 0
ExplainsFrom config input result = MatchResult result (λ _. HasTree config input) (λ e. IsErrorOf config input e.error)
