-- What callers see of a deserializer, and what reading it returns.
use Rattle.std.specs.Prelude.{◌≡◌, ⊤, Bool, true, false, List, Result, Ok, Err}
use Rattle.qs_spec.specs.Config.{Config}
use Rattle.qs_spec.specs.Shape.{Shape}
use Rattle.qs_spec.specs.Tree.{Tree}
use Rattle.qs_spec.specs.Relation.{ReadsBy, ReadsNothing}
use Rattle.qs_tree.specs.declared.error.Error.{Error}
use Rattle.qs_tree.specs.declared.error.Error.TheVariants.{Custom, Utf8, OutOfMemory}
use Rattle.qs_tree.specs.tree.Owned.{owns}
use Rattle.qs_tree.specs.tree.Views.{tree_of}
use Rattle.qs_data.specs.declared.data.data.Data.{Data}
use Rattle.qs_data.specs.declared.read.deserializer.Deserializer.{Deserializer}
use Rattle.qs_data.specs.read.TreeText.{is_text}
use Rattle.qs_data.specs.data.Views.{data_of}

-- how it reads, and the tree that it reads from
pub record Parsed : Type 0 where
  pub config : Config
  pub tree : Tree

-- what a deserializer holds
abbrev pub parsed_of : Deserializer → Parsed
parsed_of d = record { config = d.config; tree = tree_of d.tree }

-- which texts in its tree it owns, from left to right
abbrev pub owned_by : Deserializer → List Bool
owned_by d = owns d.tree

-- Ok holds data that the shape relates to the tree. An error says that the shape relates the tree to no data, or that memory ran
-- out. It is `Utf8` only if not every text and key in the tree is UTF-8.
abbrev pub ReturnsData : Parsed → Shape → Result Data Error → Type 0
ReturnsData parsed shape (Ok d) = ReadsBy parsed.config shape parsed.tree (data_of d)
ReturnsData parsed shape (Err (Custom message)) = ReadsNothing parsed.config shape parsed.tree
ReturnsData parsed shape (Err (Utf8 cause)) = ReadsNothing parsed.config shape parsed.tree × (is_text parsed.tree ≡ false)
ReturnsData parsed shape (Err OutOfMemory) = ⊤
ReturnsData parsed shape (Err _) = ⊥

-- memory runs out only if the shape relates the tree to no data
abbrev pub AllocatesOnlyForErrors : Parsed → Shape → Result Data Error → Type 0
AllocatesOnlyForErrors parsed shape (Err OutOfMemory) = ReadsNothing parsed.config shape parsed.tree
AllocatesOnlyForErrors parsed shape _ = ⊤

-- reading data of the shape doesn't allocate
abbrev pub allocates_nothing : Shape → Bool
allocates_nothing Shape.unit = true
allocates_nothing Shape.boolean = true
allocates_nothing (Shape.unsigned bits) = true
allocates_nothing (Shape.signed bits) = true
allocates_nothing Shape.character = true
allocates_nothing _ = false
