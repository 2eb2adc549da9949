-- What an explanation says of an input.
use Rattle.std.specs.Prelude.{◌≡◌, ⊤, ℕ, Bool, true, false, List, Option, Some, None, Result, Ok, Err}
use Rattle.qs_spec.specs.Config.{Config, are_rejected}
use Rattle.qs_spec.specs.Data.{Data}
use Rattle.qs_spec.specs.Relation.{ReadsBy, ReadsNothing}
use Rattle.qs_spec.specs.Shape.{Shape}
use Rattle.qs_spec.specs.Input.{HasPairs}
use Rattle.qs_spec.specs.Tree.{Tree, IsTree, HasNoTree}
use Rattle.qs_spec.specs.Tree.Tree.{uninitialized}
use Rattle.qs_data.specs.failure.Mismatch.{IsMismatch}
use Rattle.qs_data.specs.read.Reads.{reads}
use Rattle.qs_tree.specs.Error.{IsParse}
use Rattle.qs_tree.specs.Parsing.{Parses}
use Rattle.qs_tree.specs.declared.error.Error.{Error}
use Rattle.qs_tree.specs.declared.tree.value.ParsedValue.{ParsedValue}
use Rattle.qs_explain.specs.declared.explanation.Explanation.{Explanation}
use Rattle.qs_explain.specs.declared.explanation.Explanation.TheVariants as e

-- The shape reads something from the node.
abbrev pub ReadsSome : Bool → Shape → Tree → Type 0
ReadsSome reject_duplicates s n = (d : Data) × (reads reject_duplicates s n ≡ Some d)

-- the tree without pairs
abbrev pub is_uninitialized : Tree → Bool
is_uninitialized uninitialized = true
is_uninitialized _ = false

-- The error is a `Parse` error that satisfies the clause of `parse` for the input. For example, its position is in the input or right after
-- its end.
abbrev pub IsErrorOf : Config → List ℕ → Error → Type 0
IsErrorOf config input error = IsParse {T = ParsedValue} (Err error) × Parses config.is_form config.max_depth input (Err error)

-- There is an explanation exactly if the input isn't read: it has no tree, it has no pairs, or the shape reads nothing from its tree.
abbrev pub Explains : {E : Type 0} → Config → Shape → List ℕ → Result (Option Explanation) E → Type 0
Explains config s input (Ok None) = (n : Tree) × IsTree config.is_form config.max_depth input n × ReadsSome (are_rejected config.duplicates) s n
Explains config s input (Ok (Some (e.Syntax error))) = HasNoTree config.is_form config.max_depth input × IsErrorOf config input error
Explains config s input (Ok (Some e.NoPairs)) =
    IsTree config.is_form config.max_depth input uninitialized × HasPairs config.is_form config.max_depth input 0 × (reads (are_rejected config.duplicates) s uninitialized ≡ None)
Explains config s input (Ok (Some (e.Mismatch m))) =
    (n : Tree) × IsTree config.is_form config.max_depth input n × (is_uninitialized n ≡ false) × (reads (are_rejected config.duplicates) s n ≡ None) × IsMismatch (are_rejected config.duplicates) s n m
Explains config s input (Err e) = ⊤

-- The same by the relation: no explanation if the shape relates the input's tree to some data, and one if it relates the tree to none.
abbrev pub ExplainsUnread : {E : Type 0} → Config → Shape → List ℕ → Result (Option Explanation) E → Type 0
ExplainsUnread config s input (Ok None) = (n : Tree) × IsTree config.is_form config.max_depth input n × (d : Data) × ReadsBy config s n d
ExplainsUnread config s input (Ok (Some (e.Syntax error))) = HasNoTree config.is_form config.max_depth input
ExplainsUnread config s input (Ok (Some e.NoPairs)) = IsTree config.is_form config.max_depth input uninitialized × ReadsNothing config s uninitialized
ExplainsUnread config s input (Ok (Some (e.Mismatch m))) = (n : Tree) × IsTree config.is_form config.max_depth input n × ReadsNothing config s n
ExplainsUnread config s input (Err e) = ⊤
