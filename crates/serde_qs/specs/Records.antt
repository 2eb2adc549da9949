-- Structs by their fields.
use Rattle.std.specs.Prelude.{ℕ, ◌==◌, Bool, true, ◌&&◌, List, length, [], ◌∷◌, Option, Some, None, map, if◌then◌else◌, reverse}
use Rattle.std.specs.Borrow.{Bor}
use Rattle.std.specs.Str.{bytes_eq}
use Rattle.std.specs.declared.string.String.{String}
use Rattle.std.specs.declared.alloc.Global.{Global}
use Rattle.qs_spec.specs.Data.{Named, Members, no_members, one_member, members_of}
use Rattle.qs_spec.specs.Data as v
use Rattle.qs_spec.specs.Shape.{Shape, Field, Fields, no_fields, one_field, fields_of, field_names_differ}
use Rattle.qs_data.specs.data.Views.{named, data_of}
use Rattle.qs_data.specs.declared.data.data.Data.{Data}
use Rattle.serde_qs.specs.Meaning.{both}
use Rattle.serde_qs.specs.Names.{is_text}

-- names of a program as bytes
abbrev pub texts : List (Bor (List ℕ)) → List (List ℕ)
texts names = map (λ (n : Bor (List ℕ)). n.now) names

-- members in reverse order
abbrev pub members_back : List (String Global × Data) → Members
members_back ms = members_of (map (named data_of) (reverse ms))

-- the first name, which is empty if there is none, and the others
abbrev pub first_of : List (List ℕ) → List ℕ
first_of [] = []
first_of (n ∷ names) = n

abbrev pub others_of : List (List ℕ) → List (List ℕ)
others_of [] = []
others_of (n ∷ names) = names

-- the first field by the first name, in front of the others by their names; and its data, unless it is left out, in front of theirs
abbrev pub field_shape : Shape → Bool → (List (List ℕ) → List Field) → List (List ℕ) → List Field
field_shape s optional rest names = (first_of names, s, optional) ∷ rest (others_of names)

abbrev pub field_data : Option v.Data → (List (List ℕ) → List Named) → List (List ℕ) → List Named
field_data None rest names = rest (others_of names)
field_data (Some x) rest names = (first_of names, x) ∷ rest (others_of names)

-- the name of each field is UTF-8
abbrev pub are_text_names : Fields → Bool
are_text_names no_fields = true
are_text_names (one_field n s optional fs) = is_text n && are_text_names fs

-- as many names as there are fields, no two are equal, and each is UTF-8
abbrev pub are_names : List (List ℕ) → ℕ → List Field → Bool
are_names names count fields = (length names == count) && (field_names_differ (fields_of fields) && are_text_names (fields_of fields))

-- no field, if no member is left
abbrev pub nothing_in : Members → Option (Unit {0})
nothing_in no_members = Some tt
nothing_in _ = None

-- If the first member has the first name, it means a value of the first field. Otherwise the field is missing, and `absent` is its value, if
-- it has one then.
abbrev pub field_in : {A B : Type 0} → Option A → (v.Data → Option A) → (List (List ℕ) → Members → Option B) → List (List ℕ) → Members → Option (A × B)
field_in absent m rest names no_members = both absent (rest (others_of names) no_members)
field_in absent m rest names (one_member k d ms) =
    if bytes_eq k (first_of names) then both (m d) (rest (others_of names) ms) else both absent (rest (others_of names) (one_member k d ms))

-- the same for a field that mustn't be missing
abbrev pub member_in : {A B : Type 0} → (v.Data → Option A) → (List (List ℕ) → Members → Option B) → List (List ℕ) → Members → Option (A × B)
member_in m rest names ms = field_in None m rest names ms

-- the fields of a struct
abbrev pub struct_in : {A : Type 0} → (Members → Option A) → v.Data → Option A
struct_in m (v.struct ms) = m ms
struct_in m _ = None
