-- Enums by their variants.
use Rattle.std.specs.Prelude.{◌≡◌, ℕ, ◌==◌, Bool, true, not, ◌&&◌, List, length, [], ◌∷◌, Option, Some, None, option_map, if◌then◌else◌}
use Rattle.std.specs.Str.{bytes_eq, is_utf8}
use Rattle.qs_spec.specs.Data as d
use Rattle.qs_spec.specs.Data.{Data, Members}
use Rattle.qs_spec.specs.Shape.{Shape, field_names_differ, Variant, Variants, no_variants, one_variant, variants_of, is_variant_name, is_distinct, is_distinct_kind, VariantKind, unit_kind, newtype_kind, tuple_kind, struct_kind}
use Rattle.qs_data.specs.shape.internal.Fitting.{fits_variant}
use Rattle.qs_spec.specs.Fits.{variant_kind}
use Rattle.qs_spec.specs.Plain.{is_plain}
use Rattle.serde_qs.specs.Names.{is_text}
use Rattle.serde_qs.specs.Records.{are_text_names, first_of, others_of}
use Rattle.qs_spec.specs.Same.{Same}
use Rattle.serde_qs.specs.declared.compound.variants.OneOf.{OneOf}
use Rattle.serde_qs.specs.declared.compound.variants.OneOf.TheVariants.{First, Later}

-- the name of a variant
abbrev pub name_in : Data → List ℕ
name_in (d.unit_variant n) = n
name_in (d.newtype_variant n x) = n
name_in (d.tuple_variant n xs) = n
name_in (d.struct_variant n ms) = n
name_in _ = []

-- the names of its fields differ
abbrev pub kind_differs : VariantKind → Bool
kind_differs unit_kind = true
kind_differs (newtype_kind s) = true
kind_differs (tuple_kind ss) = true
kind_differs (struct_kind u fs) = field_names_differ fs

-- the names of the variants differ, and in each variant the names of its fields
abbrev pub variants_differ : Variants → Bool
variants_differ no_variants = true
variants_differ (one_variant n k vs) = not (is_variant_name n vs) && (kind_differs k && variants_differ vs)

-- the names of its fields are UTF-8
abbrev pub kind_is_text : VariantKind → Bool
kind_is_text unit_kind = true
kind_is_text (newtype_kind s) = true
kind_is_text (tuple_kind ss) = true
kind_is_text (struct_kind u fs) = are_text_names fs

-- the names of the variants and of their fields are UTF-8
abbrev pub variants_are_text : Variants → Bool
variants_are_text no_variants = true
variants_are_text (one_variant n k vs) = is_text n && (kind_is_text k && variants_are_text vs)

-- as many names as the variants and their fields need, which differ and are UTF-8
abbrev pub are_variants : List (List ℕ) → ℕ → List Variant → Bool
are_variants names count vs = (length names == count) && (variants_differ (variants_of vs) && variants_are_text (variants_of vs))

-- what data means as a variant of a kind, whatever its name

abbrev pub unit_variant_in : Data → Option (Unit {0})
unit_variant_in (d.unit_variant n) = Some tt
unit_variant_in _ = None

abbrev pub newtype_variant_in : {A : Type 0} → (Data → Option A) → Data → Option A
newtype_variant_in m (d.newtype_variant n x) = m x
newtype_variant_in m _ = None

abbrev pub struct_variant_in : {A : Type 0} → (Members → Option A) → Data → Option A
struct_variant_in m (d.struct_variant n ms) = m ms
struct_variant_in m _ = None

-- one of two, by a function for each

abbrev pub choose : {A B C : Type 0} → (A → C) → (B → C) → OneOf A B → C
choose f g (First x) = f x
choose f g (Later y) = g y

abbrev pub each : {A B C D : Type 0} → (A → C) → (B → D) → OneOf A B → OneOf C D
each f g (First x) = First (f x)
each f g (Later y) = Later (g y)

-- The first variant has the first name, followed by the names of its fields; `after` drops the fields' names.

abbrev pub last_shape : (List (List ℕ) → VariantKind) → List (List ℕ) → List Variant
last_shape kind names = (first_of names, kind (others_of names)) ∷ []

abbrev pub variant_shape : (List (List ℕ) → VariantKind) → (List (List ℕ) → List (List ℕ)) → (List (List ℕ) → List Variant) → List (List ℕ) → List Variant
variant_shape kind after rest names = (first_of names, kind (others_of names)) ∷ rest (after (others_of names))

abbrev pub last_data : {A : Type 0} → (List ℕ → List (List ℕ) → A → Data) → List (List ℕ) → A → Data
last_data written names x = written (first_of names) (others_of names) x

abbrev pub variant_data : {A B : Type 0} → (List ℕ → List (List ℕ) → A → Data) → (List (List ℕ) → List (List ℕ)) → (List (List ℕ) → B → Data) → List (List ℕ) → OneOf A B → Data
variant_data written after rest names x = choose (last_data written names) (rest (after (others_of names))) x

abbrev pub last_in : {A : Type 0} → (List (List ℕ) → Data → Option A) → List (List ℕ) → Data → Option A
last_in m names x = if bytes_eq (name_in x) (first_of names) then m (others_of names) x else None

abbrev pub variant_in : {A B : Type 0} → (List (List ℕ) → Data → Option A) → (List (List ℕ) → List (List ℕ)) → (List (List ℕ) → Data → Option B) → List (List ℕ) → Data → Option (OneOf A B)
variant_in m after rest names x =
    if bytes_eq (name_in x) (first_of names) then option_map First (m (others_of names) x) else option_map Later (rest (after (others_of names)) x)

-- a variant of a kind fits, and comes back

abbrev pub KindFits : {A : Type 0} → (List (List ℕ) → VariantKind) → (List ℕ → List (List ℕ) → A → Data) → Type 0
KindFits {A} shape written = (is_form : Bool) (n : List ℕ) (names : List (List ℕ)) (x : A)
    → kind_differs (shape names) ≡ true → kind_is_text (shape names) ≡ true → is_plain is_form (written n names x) ≡ true → fits_variant (Some (shape names)) (written n names x) ≡ true

abbrev pub KindComesBack : {A V : Type 0} → (List (List ℕ) → VariantKind) → (List ℕ → List (List ℕ) → A → Data) → (List (List ℕ) → Data → Option V) → (A → V) → Type 0
KindComesBack {A} shape written meaning value = (is_form : Bool) (n : List ℕ) (names : List (List ℕ)) (x : A) (e : Data)
    → kind_differs (shape names) ≡ true → is_plain is_form (written n names x) ≡ true → Same (written n names x) e → meaning names e ≡ Some (value x)

-- a variant that is written has the name that it was given, and the name of one of the variants

abbrev pub KindIsNamed : {A : Type 0} → (List ℕ → List (List ℕ) → A → Data) → Type 0
KindIsNamed {A} written = (n : List ℕ) (names : List (List ℕ)) (x : A) → name_in (written n names x) ≡ n

abbrev pub AreNamed : {A : Type 0} → (List (List ℕ) → List Variant) → (List (List ℕ) → A → Data) → Type 0
AreNamed {A} shape written = (names : List (List ℕ)) (x : A) → is_variant_name (name_in (written names x)) (variants_of (shape names)) ≡ true

-- an enum fits, and comes back

-- the data is one of these variants, and what it holds fits
abbrev pub fits_one_of : Variants → Data → Bool
fits_one_of vs x = is_utf8 (name_in x) && fits_variant (variant_kind (name_in x) vs) x

abbrev pub VariantsFit : {A : Type 0} → (List (List ℕ) → List Variant) → (List (List ℕ) → A → Data) → Type 0
VariantsFit {A} shape written = (is_form : Bool) (names : List (List ℕ)) (x : A) → variants_differ (variants_of (shape names)) ≡ true → variants_are_text (variants_of (shape names)) ≡ true
    → is_plain is_form (written names x) ≡ true → fits_one_of (variants_of (shape names)) (written names x) ≡ true

abbrev pub VariantsComeBack : {A V : Type 0} → (List (List ℕ) → List Variant) → (List (List ℕ) → A → Data) → (List (List ℕ) → Data → Option V) → (A → V) → Type 0
VariantsComeBack {A} shape written meaning value = (is_form : Bool) (names : List (List ℕ)) (x : A) (e : Data)
    → variants_differ (variants_of (shape names)) ≡ true → is_plain is_form (written names x) ≡ true → Same (written names x) e → meaning names e ≡ Some (value x)

-- if the names differ, the shape is distinct

abbrev pub KindIsDistinct : (List (List ℕ) → VariantKind) → Type 0
KindIsDistinct shape = (names : List (List ℕ)) → kind_differs (shape names) ≡ true → is_distinct_kind (shape names) ≡ true

abbrev pub AreDistinct : (List (List ℕ) → List Variant) → Type 0
AreDistinct shape = (names : List (List ℕ)) → variants_differ (variants_of (shape names)) ≡ true → is_distinct (Shape.enumeration (variants_of (shape names))) ≡ true
