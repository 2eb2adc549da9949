-- The types of fields: of one that must be there, and of one that may be missing.
use Rattle.std.specs.Prelude.{◌≡◌, ℕ, Bool, true, List, Option, Some, None, option_and_then}
use Rattle.qs_spec.specs.Data.{Data, Members, no_members, one_member, members_of, Named}
use Rattle.qs_spec.specs.Fits.{fits}
use Rattle.qs_spec.specs.Plain.{is_plain}
use Rattle.qs_spec.specs.Same.{Same}
use Rattle.qs_spec.specs.Shape.{Shape, Field, Fields, fields_of, is_field_name}

-- A field that may be missing has some `missing`: what its value is then, or None if its default means no value.

-- the value of a field that isn't there
abbrev pub absent : {V : Type 0} → Option (Option V) → Option V
absent None = None
absent (Some v) = v

-- The value of a field that has no key. If it must be there, its value is the meaning of the data that a missing key has, if it has any.
abbrev pub keyless : {V : Type 0} → (Data → Option V) → Option Data → Option (Option V) → Option V
keyless m d None = option_and_then m d
keyless m d (Some v) = v

-- Plain data fits the shape, and only a field that may be missing has none.
abbrev pub DatumFits : Bool → Shape → Bool → Option Data → Type 0
DatumFits is_form s optional None = optional ≡ true
DatumFits is_form s optional (Some x) = is_plain is_form x ≡ true → fits s x ≡ true

-- Data that is the same as plain data means the value, and if there is none, it is the value of a missing field.
abbrev pub DatumComesBack : {V : Type 0} → Bool → (Data → Option V) → Option V → V → Option Data → Type 0
DatumComesBack is_form m missing v None = missing ≡ Some v
DatumComesBack is_form m missing v (Some x) = (e : Data) → is_plain is_form x ≡ true → Same x e → m e ≡ Some v

-- each value of a field's type

abbrev pub FieldFits : {A : Type 0} → (A → Option Data) → Shape → Bool → Type 0
FieldFits {A} datum s optional = (is_form : Bool) (x : A) → DatumFits is_form s optional (datum x)

abbrev pub FieldComesBack : {A V : Type 0} → (A → Option Data) → (Data → Option V) → Option V → (A → V) → Type 0
FieldComesBack {A} datum m missing value = (is_form : Bool) (x : A) → DatumComesBack is_form m missing (value x) (datum x)

-- the first member, if there is one, has the name of a field
abbrev pub is_first_named : Fields → Members → Bool
is_first_named fs no_members = true
is_first_named fs (one_member k d ms) = is_field_name k fs

-- what is written begins with a field
abbrev pub FieldsAreNamed : {A : Type 0} → (List (List ℕ) → List Field) → (List (List ℕ) → A → List Named) → Type 0
FieldsAreNamed {A} shape written = (names : List (List ℕ)) (x : A) → is_first_named (fields_of (shape names)) (members_of (written names x)) ≡ true
