-- Short names for the worked examples: trees, shapes and data, what is read from an input, and what data is written as.
use Rattle.std.specs.Prelude.{◌≡◌, ℕ, false, List, [], ◌∷◌, Option, Some, None}
use Rattle.qs_spec.specs.Config.{Config}
use Rattle.qs_spec.specs.Segment.{Segment}
use Rattle.qs_spec.specs.Leaf.{Leaf}
use Rattle.qs_spec.specs.Tree.{Tree, Items, Entries, IsTree, HasNoTree}
use Rattle.qs_spec.specs.Shape.{Shape, no_fields, one_field, UnknownKeys}
use Rattle.qs_spec.specs.Data.{Data, pairs_of, members_of}
use Rattle.qs_spec.specs.Relation.{ReadsBy, ReadsNothing}
use Rattle.qs_spec.specs.Entry.{EntryError, entries}
use Rattle.qs_spec.specs.Written.{written}
use Rattle.qs_spec.specs.Stable.{is_stable}

-- a leaf without `+` and `%`
abbrev pub text_leaf : List ℕ → Tree
text_leaf bytes = Tree.leaf (Leaf.Text bytes false)

-- a sequence of such leaves
abbrev pub text_items : List (List ℕ) → Items
text_items [] = Items.no_items
text_items (t ∷ ts) = Items.item (text_leaf t) (text_items ts)

abbrev pub text_leaves : List (List ℕ) → Tree
text_leaves ts = Tree.sequence (text_items ts)

-- an entry under a text without `+` and `%`
abbrev pub at_text : List ℕ → Tree → Entries → Entries
at_text key t es = Entries.entry (Segment.Str key) false t es

-- a map of one such entry
abbrev pub only : List ℕ → Tree → Tree
only key t = Tree.mapping (at_text key t Entries.no_entries)

-- a struct with one field, which isn't optional
abbrev pub field : List ℕ → Shape → Shape
field name s = Shape.struct UnknownKeys.ignored (one_field name s false no_fields)

-- data of a struct with one field
abbrev pub struct_with : List ℕ → Data → Data
struct_with name d = Data.struct (members_of ((name, d) ∷ []))

-- a map of one text to data
abbrev pub map_with : List ℕ → Data → Data
map_with key d = Data.mapping (pairs_of ((Data.text key, d) ∷ []))

-- this is what the shape reads from the tree, or None if it reads nothing
abbrev pub ReadsOrNothing : Config → Shape → Tree → Option Data → Type 0
ReadsOrNothing config shape tree None = ReadsNothing config shape tree
ReadsOrNothing config shape tree (Some d) = ReadsBy config shape tree d

-- the input has a tree, and this is what the shape reads from it
pub record IsRead (config : Config) (shape : Shape) (input : List ℕ) (answer : Option Data) : Type 0 where
  pub tree : Tree
  pub is_tree : IsTree config.is_form config.max_depth input tree
  pub reads : ReadsOrNothing config shape tree answer

-- the text of the entries before the first error, and that error if there is one
pub record IsWritten (config : Config) (d : Data) (text : List ℕ) (error : Option EntryError) : Type 0 where
  pub text_is : written config.is_form false (entries config d).entries ≡ text
  pub error_is : (entries config d).error ≡ error

-- the data is written as the text, and this is what the shape reads from it
pub record IsReadAs (config : Config) (shape : Shape) (d : Data) (text : List ℕ) (answer : Option Data) : Type 0 where
  pub written : IsWritten config d text None
  pub read : IsRead config shape text answer

-- this is the tree of the input, if it has one
abbrev pub IsTreeOrNone : Config → List ℕ → Option Tree → Type 0
IsTreeOrNone config input None = HasNoTree config.is_form config.max_depth input
IsTreeOrNone config input (Some tree) = IsTree config.is_form config.max_depth input tree

-- The input has this tree, which isn't stable. What `any` reads from it is written as the text, which has the other tree, or none.
pub record IsUnstable (config : Config) (input : List ℕ) (tree : Tree) (d : Data) (text : List ℕ) (other : Option Tree) : Type 0 where
  pub is_tree : IsTree config.is_form config.max_depth input tree
  pub unstable : is_stable config.is_form tree ≡ false
  pub reads : ReadsBy config Shape.any tree d
  pub written : IsWritten config d text None
  pub again : IsTreeOrNone config text other
