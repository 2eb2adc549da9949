-- Fields that are written, and fields that are left out.
use Rattle.std.proofs.Common.{ap, ap₂, ◌∙◌, refl, sym, ⊎_elim}
use Rattle.std.proofs.lemmas.Bool.{cases_Bool, false≢true}
use Rattle.std.proofs.lemmas.Slice.Eq.{bytes_eq-Decides}
use Rattle.std.specs.Prelude.{◌≡◌, ℕ, Bool, true, false, not, ◌||◌, List, Option, Some, None, option_map, if◌then◌else◌}
use Rattle.std.specs.Str.{bytes_eq}
use Rattle.qs_spec.specs.Data.{Data, Members, no_members, one_member, members_of, Named}
use Rattle.qs_spec.specs.Plain.{are_plain_members}
use Rattle.qs_spec.specs.Same.{SameMembers}
use Rattle.qs_spec.specs.Shape.{Shape, Field, Fields, one_field, fields_of, is_field_name, field_names_differ}
use Rattle.serde_qs.specs.ComesBack.{ComesBack, DataFit, FieldsComeBack}
use Rattle.serde_qs.specs.FieldTypes.{DatumComesBack, DatumFits, FieldsAreNamed, is_first_named}
use Rattle.serde_qs.specs.Meaning.{both}
use Rattle.serde_qs.specs.Records.{first_of, others_of, field_data, field_shape, field_in}
use Rattle.serde_qs.specs.internal.Booleans.{both_hold}
use Rattle.serde_qs.specs.internal.Fitting.{member_parts}

pub itself_named : (n : List ℕ) (b : Bool) → (bytes_eq n n || b) ≡ true
itself_named n b = ap (λ t. t || b) ((bytes_eq-Decides n n).1 refl)

or_true : (b : Bool) → (b || true) ≡ true
or_true true = refl
or_true false = refl

pub later_named : (n : List ℕ) (s : Shape) (o : Bool) (fs : Fields) (ms : Members) → is_first_named fs ms ≡ true → is_first_named (one_field n s o fs) ms ≡ true
later_named n s o fs no_members h = refl
later_named n s o fs (one_member k d ms) h = ap (λ t. bytes_eq n k || t) h ∙ or_true (bytes_eq n k)

pub field_named : {B : Type 0} (s : Shape) (optional : Bool) (shape : List (List ℕ) → List Field) (written : List (List ℕ) → B → List Named) → FieldsAreNamed shape written
    → (names : List (List ℕ)) (o : Option Data) (b : B) → is_first_named (fields_of (field_shape s optional shape names)) (members_of (field_data o (λ ns. written ns b) names)) ≡ true
field_named s optional shape written named names None b =
    later_named (first_of names) s optional (fields_of (shape (others_of names))) (members_of (written (others_of names) b)) (named (others_of names) b)
field_named s optional shape written named names (Some x) b = itself_named (first_of names) (is_field_name (first_of names) (fields_of (shape (others_of names))))

-- a name that no field has is none of theirs
pub other_field : (n k : List ℕ) (fs : Fields) → not (is_field_name n fs) ≡ true → is_field_name k fs ≡ true → bytes_eq k n ≡ false
other_field n k fs absent present =
    ⊎_elim
    (λ y. absurd (false≢true (sym (ap not (ap (λ m. is_field_name m fs) (sym ((bytes_eq-Decides k n).0 y)) ∙ present)) ∙ absent)))
    (λ f. f)
    (cases_Bool (bytes_eq k n))

absent_back : {V W : Type 0} (m : Data → Option V) (absent : Option V) (v : V) → absent ≡ Some v → (others : List (List ℕ) → Members → Option W) (names : List (List ℕ)) (fs : Fields) (w : W) (ws ms : Members)
    → not (is_field_name (first_of names) fs) ≡ true → is_first_named fs ws ≡ true → others (others_of names) ms ≡ Some w → SameMembers ws ms → field_in absent m others names ms ≡ Some (v, w)
absent_back m absent v is others names fs w _ _ free named more SameMembers.members_end = ap₂ both is more
absent_back m absent v is others names fs w _ _ free named more (SameMembers.members_more {name = k} {d} {e} {ms} {ns} p ps) =
    let later = others_of names in
    ap (λ t. if t then both (m e) (others later ns) else both absent (others later (one_member k e ns))) (other_field (first_of names) k fs free named)
    ∙ ap₂ both is more

pub field_back : {B V W : Type 0} (m : Data → Option V) (absent : Option V) (v : V) (is_form : Bool) (o : Option Data) → DatumComesBack is_form m absent v o
    → (shape : List (List ℕ) → List Field) (written : List (List ℕ) → B → List Named) (others : List (List ℕ) → Members → Option W) (rest : B → W)
    → FieldsAreNamed shape written → FieldsComeBack shape written others rest → (s : Shape) (optional : Bool) (names : List (List ℕ)) (b : B) (ms : Members)
    → field_names_differ (fields_of (field_shape s optional shape names)) ≡ true → are_plain_members is_form (members_of (field_data o (λ ns. written ns b) names)) ≡ true
    → SameMembers (members_of (field_data o (λ ns. written ns b) names)) ms → field_in absent m others names ms ≡ Some (v, rest b)
field_back m absent v is_form None is shape written others rest named more s optional names b ms k h p =
    let later = others_of names in
    let fs = fields_of (shape later) in
    let differ = both_hold (not (is_field_name (first_of names) fs)) (field_names_differ fs) k in
    absent_back m absent v is others names fs (rest b) (members_of (written later b)) ms differ.0 (named later b) (more is_form later b ms differ.1 h p) p
field_back m absent v is_form (Some x) back shape written others rest named more s optional names b _ k h (SameMembers.members_more {name = n} {d} {e} {ms} {ns} p ps) =
    let later = others_of names in
    let fs = fields_of (shape later) in
    let same_name : bytes_eq (first_of names) (first_of names) ≡ true = (bytes_eq-Decides (first_of names) (first_of names)).1 refl in
    let parts = member_parts is_form (first_of names) x (members_of (written later b)) h in
    let differ = both_hold (not (is_field_name (first_of names) fs)) (field_names_differ fs) k in
    ap (λ t. if t then both (m e) (others later ns) else both absent (others later (one_member (first_of names) e ns))) same_name
    ∙ ap₂ both (back e parts.0 p) (more is_form later b ns differ.1 parts.1 ps)

-- a value that is left out if it is None

pub some_fits : {A : Type 0} (datum : A → Data) (s : Shape) → DataFit datum s → (is_form : Bool) (o : Option A) → DatumFits is_form s true (option_map datum o)
some_fits datum s fit is_form None = refl
some_fits datum s fit is_form (Some x) = fit is_form x

pub some_back : {A V : Type 0} (datum : A → Data) (m : Data → Option V) (value : A → V) → ComesBack datum m value
    → (is_form : Bool) (o : Option A) → DatumComesBack is_form (λ e. option_map Some (m e)) (Some None) (option_map value o) (option_map datum o)
some_back datum m value back is_form None = refl
some_back datum m value back is_form (Some x) = λ e h p. ap (option_map Some) (back is_form x e h p)
