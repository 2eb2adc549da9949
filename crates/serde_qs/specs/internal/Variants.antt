-- Enums by their variants.
use Rattle.std.proofs.Common.{ap, ◌∙◌, refl, sym, ⊎_elim}
use Rattle.std.proofs.lemmas.Bool.{cases_Bool, false≢true}
use Rattle.std.proofs.lemmas.Slice.Eq.{bytes_eq-Decides}
use Rattle.std.specs.Prelude.{◌≡◌, ℕ, ◌==◌, Bool, true, false, not, ◌&&◌, ◌||◌, List, length, Option, Some, None, option_map, if◌then◌else◌}
use Rattle.std.specs.Str.{bytes_eq}
use Rattle.qs_spec.specs.Data as d
use Rattle.qs_spec.specs.Data.{Data, Members, members_of, Named}
use Rattle.qs_spec.specs.Shape.{Shape, Field, fields_of, field_names_differ, Variant, Variants, variants_of, is_variant_name, is_distinct, variant_names_differ, are_distinct_variants, VariantKind}
use Rattle.serde_qs.specs.ComesBack.{ComesBack, FieldsComeBack}
use Rattle.serde_qs.specs.internal.Booleans.{both_hold, both_true}
use Rattle.serde_qs.specs.Records.{first_of, others_of}
use Rattle.qs_spec.specs.Plain.{are_plain_members, has_members, is_plain, is_plain_name, member_names_differ}
use Rattle.qs_spec.specs.Same.{Same}
use Rattle.serde_qs.specs.declared.compound.variants.OneOf.TheVariants.{First, Later}
use Rattle.serde_qs.specs.Variants.{AreDistinct, AreNamed, KindComesBack, KindIsDistinct, KindIsNamed, VariantsComeBack, are_variants, each, kind_differs, last_data, last_shape, last_in, name_in, newtype_variant_in, struct_variant_in, unit_variant_in, variant_data, variant_shape, variant_in, variants_are_text, variants_differ}

pub unit_variant_back : (n : List ℕ) (e : Data) → Same (d.unit_variant n) e → unit_variant_in e ≡ Some tt
unit_variant_back n _ Same.unit_variant = refl

pub newtype_variant_back : {A V : Type 0} (datum : A → Data) (meaning : Data → Option V) (value : A → V) → ComesBack datum meaning value
    → (is_form : Bool) (n : List ℕ) (x : A) (e : Data) → is_plain is_form (d.newtype_variant n (datum x)) ≡ true → Same (d.newtype_variant n (datum x)) e → newtype_variant_in meaning e ≡ Some (value x)
newtype_variant_back datum meaning value back is_form n x _ h (Same.newtype_variant {name = m} {d} {e} p) = back is_form x e (both_hold (is_plain_name is_form n) (is_plain is_form (datum x)) h).1 p

pub struct_variant_back : {A V : Type 0} (shape : List (List ℕ) → List Field) (written : List (List ℕ) → A → List Named) (meaning : List (List ℕ) → Members → Option V) (value : A → V)
    → FieldsComeBack shape written meaning value → (is_form : Bool) (n : List ℕ) (names : List (List ℕ)) (x : A) (e : Data)
    → field_names_differ (fields_of (shape names)) ≡ true → is_plain is_form (d.struct_variant n (members_of (written names x))) ≡ true → Same (d.struct_variant n (members_of (written names x))) e → struct_variant_in (meaning names) e ≡ Some (value x)
struct_variant_back shape written meaning value back is_form n names x _ k h (Same.struct_variant {name = m} {ms} {ns} p) =
    let ws = members_of (written names x) in
    back is_form names x ns k (both_hold (is_plain_name is_form n && has_members ws && member_names_differ ws) (are_plain_members is_form ws) h).1 p

-- data that are the same have one name

pub same_name : {x e : Data} → Same x e → name_in x ≡ name_in e
same_name Same.unit = refl
same_name Same.none = refl
same_name (Same.some p) = refl
same_name Same.boolean = refl
same_name Same.unsigned = refl
same_name Same.signed = refl
same_name Same.character = refl
same_name Same.text = refl
same_name Same.bytes = refl
same_name (Same.sequence p) = refl
same_name (Same.tuple p) = refl
same_name (Same.mapping k l p) = refl
same_name (Same.struct p) = refl
same_name (Same.newtype p) = refl
same_name Same.unit_variant = refl
same_name (Same.newtype_variant p) = refl
same_name (Same.tuple_variant p) = refl
same_name (Same.struct_variant p) = refl

first_named : (n : List ℕ) (x : Data) (b : Bool) → name_in x ≡ n → (bytes_eq n (name_in x) || b) ≡ true
first_named n x b h = ap (λ t. t || b) ((bytes_eq-Decides n (name_in x)).1 (sym h))

or_true : (b : Bool) → (b || true) ≡ true
or_true true = refl
or_true false = refl

pub last_named : {A : Type 0} (shape : List (List ℕ) → VariantKind) (written : List ℕ → List (List ℕ) → A → Data) → KindIsNamed written → AreNamed (last_shape shape) (last_data written)
last_named shape written named names x = first_named (first_of names) (last_data written names x) false (named (first_of names) (others_of names) x)

pub one_named : {A B : Type 0} (shape : List (List ℕ) → VariantKind) (written : List ℕ → List (List ℕ) → A → Data) → KindIsNamed written
    → (after : List (List ℕ) → List (List ℕ)) (rest : List (List ℕ) → List Variant) (more : List (List ℕ) → B → Data) → AreNamed rest more
    → AreNamed (variant_shape shape after rest) (variant_data written after more)
one_named shape written named after rest more others names (First x) =
    first_named (first_of names) (last_data written names x) (is_variant_name (name_in (last_data written names x)) (variants_of (rest (after (others_of names))))) (named (first_of names) (others_of names) x)
one_named shape written named after rest more others names (Later y) =
    let later = after (others_of names) in
    ap (λ t. bytes_eq (first_of names) (name_in (more later y)) || t) (others later y) ∙ or_true (bytes_eq (first_of names) (name_in (more later y)))

-- a name that no variant has is none of theirs
pub other_name : (n m : List ℕ) (vs : Variants) → not (is_variant_name n vs) ≡ true → is_variant_name m vs ≡ true → bytes_eq m n ≡ false
other_name n m vs absent present =
    ⊎_elim
    (λ y. absurd (false≢true (sym (ap not (ap (λ k. is_variant_name k vs) (sym ((bytes_eq-Decides m n).0 y)) ∙ present)) ∙ absent)))
    (λ f. f)
    (cases_Bool (bytes_eq m n))

pub last_back : {A V : Type 0} (shape : List (List ℕ) → VariantKind) (written : List ℕ → List (List ℕ) → A → Data) (meaning : List (List ℕ) → Data → Option V) (value : A → V)
    → KindIsNamed written → KindComesBack shape written meaning value → VariantsComeBack (last_shape shape) (last_data written) (last_in meaning) value
last_back shape written meaning value named back is_form names x e k h p =
    let n = first_of names in
    let later = others_of names in
    let w = written n later x in
    let tested : bytes_eq (name_in w) n ≡ true = (bytes_eq-Decides (name_in w) n).1 (named n later x) in
    let differ = both_hold (kind_differs (shape later)) true k in
    ap (λ t. if t then meaning later e else None) (ap (λ m. bytes_eq m n) (sym (same_name p)) ∙ tested) ∙ back is_form n later x e differ.0 h p

pub one_back : {A B V W : Type 0} (shape : List (List ℕ) → VariantKind) (written : List ℕ → List (List ℕ) → A → Data) (meaning : List (List ℕ) → Data → Option V) (value : A → V)
    → KindIsNamed written → KindComesBack shape written meaning value → (after : List (List ℕ) → List (List ℕ))
    → (rest : List (List ℕ) → List Variant) (more : List (List ℕ) → B → Data) (others : List (List ℕ) → Data → Option W) (seen : B → W)
    → AreNamed rest more → VariantsComeBack rest more others seen
    → VariantsComeBack (variant_shape shape after rest) (variant_data written after more) (variant_in meaning after others) (λ x. each value seen x)
one_back shape written meaning value named back after rest more others seen present again is_form names (First x) e k h p =
    let n = first_of names in
    let later = others_of names in
    let vs = variants_of (rest (after later)) in
    let w = written n later x in
    let tested : bytes_eq (name_in w) n ≡ true = (bytes_eq-Decides (name_in w) n).1 (named n later x) in
    let parts = both_hold (not (is_variant_name n vs)) (kind_differs (shape later) && variants_differ vs) k in
    let differ = both_hold (kind_differs (shape later)) (variants_differ vs) parts.1 in
    ap (λ t. if t then option_map First (meaning later e) else option_map Later (others (after later) e)) (ap (λ m. bytes_eq m n) (sym (same_name p)) ∙ tested)
    ∙ ap (λ r. option_map First r) (back is_form n later x e differ.0 h p)
one_back shape written meaning value named back after rest more others seen present again is_form names (Later y) e k h p =
    let n = first_of names in
    let later = others_of names in
    let vs = variants_of (rest (after later)) in
    let w = more (after later) y in
    let parts = both_hold (not (is_variant_name n vs)) (kind_differs (shape later) && variants_differ vs) k in
    let differ = both_hold (kind_differs (shape later)) (variants_differ vs) parts.1 in
    let tested : bytes_eq (name_in w) n ≡ false = other_name n (name_in w) vs parts.0 (present (after later) y) in
    ap (λ t. if t then option_map First (meaning later e) else option_map Later (others (after later) e)) (ap (λ m. bytes_eq m n) (sym (same_name p)) ∙ tested)
    ∙ ap (λ r. option_map Later r) (again is_form (after later) y e differ.1 h p)

-- if names suit an enum, the names of its variants differ and are UTF-8
pub variants_of_names : (names : List (List ℕ)) (count : ℕ) (vs : List Variant) → are_variants names count vs ≡ true → (variants_differ (variants_of vs) ≡ true) × (variants_are_text (variants_of vs) ≡ true)
variants_of_names names count vs k =
    let differ = variants_differ (variants_of vs) in
    let are_text = variants_are_text (variants_of vs) in
    both_hold differ are_text (both_hold (length names == count) (differ && are_text) k).1

pub enum_back : {A V : Type 0} (count : ℕ) (shape : List (List ℕ) → List Variant) (written : List (List ℕ) → A → Data) (meaning : List (List ℕ) → Data → Option V) (value : A → V)
    → VariantsComeBack shape written meaning value → (is_form : Bool) (names : List (List ℕ)) (x : A) (e : Data)
    → are_variants names count (shape names) ≡ true → is_plain is_form (written names x) ≡ true → Same (written names x) e → meaning names e ≡ Some (value x)
enum_back count shape written meaning value back is_form names x e k h p = back is_form names x e (variants_of_names names count (shape names) k).0 h p

pub last_distinct : (shape : List (List ℕ) → VariantKind) → KindIsDistinct shape → AreDistinct (last_shape shape)
last_distinct shape distinct names k = both_true (distinct (others_of names) (both_hold (kind_differs (shape (others_of names))) true k).0) refl

pub one_distinct : (shape : List (List ℕ) → VariantKind) → KindIsDistinct shape → (after : List (List ℕ) → List (List ℕ)) (rest : List (List ℕ) → List Variant) → AreDistinct rest → AreDistinct (variant_shape shape after rest)
one_distinct shape distinct after rest others names k =
    let later = others_of names in
    let vs = variants_of (rest (after later)) in
    let parts = both_hold (not (is_variant_name (first_of names) vs)) (kind_differs (shape later) && variants_differ vs) k in
    let differ = both_hold (kind_differs (shape later)) (variants_differ vs) parts.1 in
    let done = both_hold (variant_names_differ vs) (are_distinct_variants vs) (others (after later) differ.1) in
    both_true (both_true parts.0 done.0) (both_true (distinct later differ.0) done.1)

pub enum_distinct : (count : ℕ) (shape : List (List ℕ) → List Variant) → AreDistinct shape → (names : List (List ℕ)) → are_variants names count (shape names) ≡ true
    → is_distinct (Shape.enumeration (variants_of (shape names))) ≡ true
enum_distinct count shape distinct names k = distinct names (variants_of_names names count (shape names) k).0
