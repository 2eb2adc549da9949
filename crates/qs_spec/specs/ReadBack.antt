-- What it means that written data is read back.
use Rattle.std.specs.Prelude.{◌≡◌, ℕ, Bool, true, false, ◌&&◌, ◌||◌, List, [], ◌∷◌, None}
use Rattle.std.specs.List.{AllByRecursion}
use Rattle.std.specs.Str.{bytes_eq}
use Rattle.qs_spec.specs.Config.{Config}
use Rattle.qs_spec.specs.Tree.{Tree, IsTree}
use Rattle.qs_spec.specs.Data.{Data}
use Rattle.qs_spec.specs.Shape.{Shape}
use Rattle.qs_spec.specs.Relation.{ReadsBy}
use Rattle.qs_spec.specs.Entry.{Path, Entry, entries}
use Rattle.qs_spec.specs.Plain.{is_plain}
use Rattle.qs_spec.specs.Fits.{fits}
use Rattle.qs_spec.specs.Same.{Same}
use Rattle.qs_spec.specs.Permutation.{KeepsOrder, IsReordering}

-- the data is plain, fits the shape, and is written without an error
pub record IsPlainFor (config : Config) (shape : Shape) (d : Data) : Type 0 where
  pub plain : is_plain config.is_form d ≡ true
  pub fits : fits shape d ≡ true
  pub whole : (entries config d).error ≡ None

-- the input has a tree, and the shape reads the same data from it
pub record IsReadBack (config : Config) (shape : Shape) (d : Data) (input : List ℕ) : Type 0 where
  pub tree : Tree
  pub is_tree : IsTree config.is_form config.max_depth input tree
  pub answer : Data
  pub reads : ReadsBy config shape tree answer
  pub same : Same d answer

-- the second path begins with the first
abbrev pub is_prefix : Path → Path → Bool
is_prefix [] q = true
is_prefix (s ∷ p) [] = false
is_prefix (s ∷ p) (t ∷ q) = bytes_eq s t && is_prefix p q

-- no entry's path begins with another's
abbrev pub ArePathsApart : List Entry → Type 0
ArePathsApart [] = Unit {0}
ArePathsApart (e ∷ es) = AllByRecursion (λ (f : Entry). (is_prefix e.path f.path || is_prefix f.path e.path) ≡ false) es × ArePathsApart es

-- two paths are equal, and two entries have the same path
abbrev pub is_same_path : Path → Path → Bool
is_same_path [] [] = true
is_same_path [] (t ∷ q) = false
is_same_path (s ∷ p) [] = false
is_same_path (s ∷ p) (t ∷ q) = bytes_eq s t && is_same_path p q

abbrev pub have_one_path : Entry → Entry → Bool
have_one_path e f = is_same_path e.path f.path

-- permutations that keep entries with the same path in order, by recursion and by indices
abbrev pub KeepsPaths : List Entry → List Entry → Type 0
KeepsPaths = IsReordering have_one_path

abbrev pub KeepsPlaces : List Entry → List Entry → Type 0
KeepsPlaces = KeepsOrder have_one_path
