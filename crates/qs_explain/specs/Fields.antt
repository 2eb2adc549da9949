-- What explanations say of each field of a struct.
use Rattle.std.specs.Prelude.{◌≡◌, ℕ, Bool, true, false, ◌||◌, cond, List, [], ◌∷◌, Option, Some, None, Ok}
use Rattle.std.specs.declared.alloc.AllocError.{AllocError}
use Rattle.qs_spec.specs.Config.{Config, are_rejected}
use Rattle.qs_spec.specs.Data.{Data}
use Rattle.qs_spec.specs.Node.{found}
use Rattle.qs_spec.specs.Segment.{Segment}
use Rattle.qs_spec.specs.Segment.Segment.{Str}
use Rattle.qs_spec.specs.Shape.{Shape, Fields, no_fields, one_field, is_option}
use Rattle.qs_spec.specs.Tree.{Tree, Entries, IsTree}
use Rattle.qs_data.specs.declared.failure.mismatch.Mismatch.{Mismatch}
use Rattle.qs_data.specs.failure.Mismatch.{IsMismatch, path_of}
use Rattle.qs_data.specs.failure.Parts.{field_keys}
use Rattle.qs_data.specs.read.Reads.{reads}
use Rattle.qs_explain.specs.Explains.{Explains}
use Rattle.qs_explain.specs.declared.explanation.Explanation.{Explanation}
use Rattle.qs_explain.specs.declared.explanation.Explanation.TheVariants as e

-- One explanation for each of the fields that isn't read, in their order: a mismatch whose path begins with the field's name. A field that
-- two keys name has none: its struct is at fault.
pub data OfFields (reject_duplicates : Bool) (s : Shape) (n : Tree) (es : Entries) : Fields → List Explanation → Type 0 where
  no_more : OfFields reject_duplicates s n es no_fields []
  read : {name : List ℕ} {t : Shape} {optional : Bool} {fs : Fields} {xs : List Explanation} {m : Tree} {d : Data}
      → found name es ≡ m ∷ [] → reads reject_duplicates t m ≡ Some d
      → OfFields reject_duplicates s n es fs xs → OfFields reject_duplicates s n es (one_field name t optional fs) xs
  left_out : {name : List ℕ} {t : Shape} {optional : Bool} {fs : Fields} {xs : List Explanation}
      → found name es ≡ [] → optional || is_option t ≡ true
      → OfFields reject_duplicates s n es fs xs → OfFields reject_duplicates s n es (one_field name t optional fs) xs
  named_twice : {name : List ℕ} {t : Shape} {optional : Bool} {fs : Fields} {xs : List Explanation} {a b : Tree} {rest : List Tree}
      → found name es ≡ a ∷ b ∷ rest
      → OfFields reject_duplicates s n es fs xs → OfFields reject_duplicates s n es (one_field name t optional fs) xs
  unread : {name : List ℕ} {t : Shape} {optional : Bool} {fs : Fields} {xs : List Explanation} {m : Mismatch} {path : List Segment}
      → path_of m ≡ Str name ∷ path → IsMismatch reject_duplicates s n m
      → OfFields reject_duplicates s n es fs xs → OfFields reject_duplicates s n es (one_field name t optional fs) (e.Mismatch m ∷ xs)

-- the explanations of fields among keys: without keys there are none
abbrev pub OfKeys : Bool → Shape → Tree → Fields → Option Entries → List Explanation → Type 0
OfKeys reject_duplicates s n fs None xs = xs ≡ []
OfKeys reject_duplicates s n fs (Some es) xs = OfFields reject_duplicates s n es fs xs

-- the explanations of the fields of a struct, by their names; a shape that isn't a struct has none
abbrev pub OfStruct : Bool → Shape → Tree → List Explanation → Type 0
OfStruct reject_duplicates (Shape.struct u fs) n xs = OfKeys reject_duplicates (Shape.struct u fs) n fs (field_keys n) xs
OfStruct reject_duplicates s n xs = xs ≡ []

-- the path is of the whole
abbrev pub is_whole : List Segment → Bool
is_whole [] = true
is_whole (key ∷ path) = false

-- the whole is at fault, and not one of its parts
abbrev pub is_of_whole : Explanation → Bool
is_of_whole (e.Mismatch m) = is_whole (path_of m)
is_of_whole _ = true

-- An explanation, and those of the fields: it is the first of them if the whole is at fault, and the only one if no field is.
abbrev pub with_whole : Explanation → List Explanation → List Explanation
with_whole x [] = x ∷ []
with_whole x (y ∷ ys) = cond (is_of_whole x) (x ∷ y ∷ ys) (y ∷ ys)

-- the explanations of an input's fields, with the one of the whole
abbrev pub AreOfInput : Config → Shape → List ℕ → Explanation → List Explanation → Type 0
AreOfInput config s input (e.Syntax error) ys = ys ≡ e.Syntax error ∷ []
AreOfInput config s input first ys =
    (n : Tree) × IsTree config.is_form config.max_depth input n × (xs : List Explanation) × OfStruct (are_rejected config.duplicates) s n xs × (ys ≡ with_whole first xs)

-- There are none exactly if the input is read. Otherwise they are what explains the whole, and each field that isn't read.
abbrev pub ExplainsFields : Config → Shape → List ℕ → List Explanation → Type 0
ExplainsFields config s input [] = Explains {E = AllocError} config s input (Ok None)
ExplainsFields config s input (y ∷ ys) = (first : Explanation) × Explains {E = AllocError} config s input (Ok (Some first)) × AreOfInput config s input first (y ∷ ys)
