-- Values whose data fits their shape, and that come back from data that is the same.
use Rattle.std.specs.Prelude.{◌≡◌, ℕ, Bool, true, List, Option, Some}
use Rattle.qs_spec.specs.Data.{Data, Members, members_of, Named}
use Rattle.qs_spec.specs.Fits.{fits, fits_fields}
use Rattle.qs_spec.specs.Plain.{are_plain_members, is_plain}
use Rattle.qs_spec.specs.Shape.{Shape, Field, fields_of, field_names_differ}
use Rattle.qs_spec.specs.Same.{Same, SameMembers}
use Rattle.serde_qs.specs.Records.{are_text_names}

-- These laws are about values whose data is plain, in query mode or in form mode.

-- the data of each such value fits the shape
abbrev pub DataFit : {A : Type 0} → (A → Data) → Shape → Type 0
DataFit {A} datum shape = (is_form : Bool) (x : A) → is_plain is_form (datum x) ≡ true → fits shape (datum x) ≡ true

-- each such value comes back: data that is the same as its own means that value
abbrev pub ComesBack : {A V : Type 0} → (A → Data) → (Data → Option V) → (A → V) → Type 0
ComesBack {A} datum meaning value = (is_form : Bool) (x : A) (e : Data) → is_plain is_form (datum x) ≡ true → Same (datum x) e → meaning e ≡ Some (value x)

-- the fields of a struct, by their names
abbrev pub FieldsFit : {A : Type 0} → (List (List ℕ) → List Field) → (List (List ℕ) → A → List Named) → Type 0
FieldsFit {A} shape written = (is_form : Bool) (names : List (List ℕ)) (x : A) → field_names_differ (fields_of (shape names)) ≡ true → are_text_names (fields_of (shape names)) ≡ true
    → are_plain_members is_form (members_of (written names x)) ≡ true → fits_fields (fields_of (shape names)) (members_of (written names x)) ≡ true

abbrev pub FieldsComeBack : {A V : Type 0} → (List (List ℕ) → List Field) → (List (List ℕ) → A → List Named) → (List (List ℕ) → Members → Option V) → (A → V) → Type 0
FieldsComeBack {A} shape written meaning value = (is_form : Bool) (names : List (List ℕ)) (x : A) (ms : Members) → field_names_differ (fields_of (shape names)) ≡ true
    → are_plain_members is_form (members_of (written names x)) ≡ true → SameMembers (members_of (written names x)) ms → meaning names ms ≡ Some (value x)

-- whatever a type is made of, by their names
abbrev pub PartsFit : {A : Type 0} → (List (List ℕ) → Bool) → (List (List ℕ) → Shape) → (List (List ℕ) → A → Data) → Type 0
PartsFit {A} are_named shape written = (is_form : Bool) (names : List (List ℕ)) (x : A) → are_named names ≡ true → is_plain is_form (written names x) ≡ true → fits (shape names) (written names x) ≡ true

abbrev pub PartsComeBack : {A V : Type 0} → (List (List ℕ) → Bool) → (List (List ℕ) → A → Data) → (List (List ℕ) → Data → Option V) → (A → V) → Type 0
PartsComeBack {A} are_named written meaning value = (is_form : Bool) (names : List (List ℕ)) (x : A) (e : Data)
    → are_named names ≡ true → is_plain is_form (written names x) ≡ true → Same (written names x) e → meaning names e ≡ Some (value x)
