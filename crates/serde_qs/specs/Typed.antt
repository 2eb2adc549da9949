-- What calls return.
use Rattle.std.specs.Prelude.{◌≡◌, ◌≤◌, ◌+◌, true, false, ℕ, List, length, ⊤, Result, Ok, Err, Option, Some, None}
use Rattle.qs_tree.specs.declared.error.Error.{Error}
use Rattle.qs_data.specs.read.Gives.{Gives}
use Rattle.qs_data.specs.read.TreeText.{is_text}
use Rattle.qs_tree.specs.declared.error.Error.TheVariants.{Custom, Parse, Utf8, OutOfMemory}
use Rattle.qs_spec.specs.Config.{Config}
use Rattle.qs_spec.specs.Shape.{Shape}
use Rattle.qs_spec.specs.Data.{Data}
use Rattle.qs_spec.specs.Tree.{Tree, IsTree, HasNoTree}
use Rattle.qs_spec.specs.Relation.{ReadsBy}
use Rattle.qs_spec.specs.Entry.{Entry, entries}
use Rattle.qs_spec.specs.Plain.{is_plain}
use Rattle.qs_spec.specs.Written.{written}
use Rattle.qs_spec.specs.ReadBack.{IsPlainFor}
use Rattle.qs_data.specs.read.ReadBack.{IsOrder}
use Rattle.qs_spec.specs.Same.{Same}

-- By view, the result is the value that the data means. A Custom or Utf8 error is returned exactly if it means none, and the only other
-- error is that an allocation failed.
abbrev pub GivesValue : {X Y : Type 0} → (X → Y) → Result X Error → Option Y → Type 0
GivesValue view result r = Gives view true result r

-- The input is read as this value under a configuration: it has a tree, the shape reads data from it, and the data means the value.
pub record IsRead {V : Type 0} (config : Config) (shape : Shape) (meaning : Data → Option V) (input : List ℕ) (value : V) : Type 0 where
  pub tree : Tree
  pub datum : Data
  pub has_tree : IsTree config.is_form config.max_depth input tree
  pub is_read : ReadsBy config shape tree datum
  pub is_meant : meaning datum ≡ Some value

-- the data is plain, and is written without an error
pub record IsPlainWithin (config : Config) (d : Data) : Type 0 where
  pub plain : is_plain config.is_form d ≡ true
  pub whole : (entries config d).error ≡ None

-- it has a tree, and no data that the shape reads from it means a value
pub record IsUnread {V : Type 0} (config : Config) (shape : Shape) (meaning : Data → Option V) (input : List ℕ) : Type 0 where
  pub tree : Tree
  pub has_tree : IsTree config.is_form config.max_depth input tree
  pub is_unread : (d : Data) → ReadsBy config shape tree d → meaning d ≡ None

-- it has a tree in which a text or a key isn't UTF-8
abbrev pub HasOtherBytes : Config → List ℕ → Type 0
HasOtherBytes config input = (t : Tree) × IsTree config.is_form config.max_depth input t × (is_text t ≡ false)

-- what a typed call returns: the value that the input is read as; a Parse error exactly if it has no tree, with a position of at most the
-- input's length plus one; a Custom or Utf8 error exactly if it has a tree but is read as no value, and Utf8 only if a text or a key isn't
-- UTF-8; or that an allocation failed
abbrev pub ReturnsValue : {X V : Type 0} → (X → V) → Config → Shape → (Data → Option V) → List ℕ → Result X Error → Type 0
ReturnsValue view config shape meaning input (Ok x) = IsRead config shape meaning input (view x)
ReturnsValue view config shape meaning input (Err (Custom m)) = IsUnread config shape meaning input
ReturnsValue view config shape meaning input (Err (Utf8 m)) = IsUnread config shape meaning input × HasOtherBytes config input
ReturnsValue view config shape meaning input (Err (Parse m n)) = HasNoTree config.is_form config.max_depth input × (n ≤ length input + 1)
ReturnsValue view config shape meaning input (Err OutOfMemory) = ⊤
ReturnsValue view config shape meaning input (Err _) = ⊥

-- data that is the same as this, except for the order of maps, means the value; or it means none and the result is a Custom or Utf8 error;
-- or an allocation failed
abbrev pub ReturnsSame : {X V : Type 0} → (X → V) → (Data → Option V) → Data → Result X Error → Type 0
ReturnsSame view meaning x (Ok y) = (e : Data) × Same x e × (meaning e ≡ Some (view y))
ReturnsSame view meaning x (Err (Custom m)) = (e : Data) × Same x e × (meaning e ≡ None)
ReturnsSame view meaning x (Err (Utf8 m)) = (e : Data) × Same x e × (meaning e ≡ None)
ReturnsSame view meaning x (Err OutOfMemory) = ⊤
ReturnsSame view meaning x (Err _) = ⊥

-- what a typed call returns for an input that was written from the entries of plain data that fits, in any order that `IsOrder` allows
pub record ReturnsWritten {X V : Type 0} (view : X → V) (config : Config) (shape : Shape) (meaning : Data → Option V) (input : List ℕ) (result : Result X Error) : Type 0 where
  pub returns : (x : Data) (es : List Entry) → IsPlainFor config shape x → IsOrder config x es → input ≡ written config.is_form false es → ReturnsSame view meaning x result
