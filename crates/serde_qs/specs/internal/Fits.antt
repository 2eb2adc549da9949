-- Plain data of values fit their shapes.
use Rattle.std.proofs.Common.{ap, ◌∙◌, refl, sym, ⊎_elim}
use Rattle.std.proofs.lemmas.Bool.{cases_Bool, false≢true}
use Rattle.std.proofs.lemmas.Slice.Eq.{bytes_eq-Decides}
use Rattle.std.proofs.lemmas.Str.{IsUtf8-string_bytes, is_utf8-from_IsUtf8}
use Rattle.std.specs.Prelude.{◌≡◌, ℕ, ◌==◌, Bool, true, false, not, ◌&&◌, List, length, [], ◌∷◌, map, Option, Some, None, if◌then◌else◌, string_bytes}
use Rattle.std.specs.Str.{bytes_eq, is_utf8}
use Rattle.std.specs.declared.alloc.Global.{Global}
use Rattle.std.specs.declared.string.String.{String}
use Rattle.qs_spec.specs.Data as d
use Rattle.qs_spec.specs.Data.{Data, Members, no_members, one_member, Named, members_of, values_of, pairs_of}
use Rattle.qs_spec.specs.Fits.{at_field, each_fits, fits, fits_fields, fits_pairs, fits_tuple, variant_kind}
use Rattle.qs_spec.specs.Plain.{are_few, are_plain, are_plain_members, are_plain_pairs, has_members, has_values, is_optional, is_plain, is_plain_name, member_names_differ, written_keys_differ}
use Rattle.qs_spec.specs.Shape.{Shape, KeyShape, one_shape, Field, Fields, no_fields, one_field, fields_of, field_names_differ, is_field_name, shapes_of, Variant, Variants, no_variants, one_variant, VariantKind, is_variant_name, variants_of, UnknownKeys}
use Rattle.qs_data.specs.shape.internal.Fitting.{fits_variant}
use Rattle.serde_qs.specs.ComesBack.{DataFit, FieldsFit}
use Rattle.serde_qs.specs.Maps.{entry_data}
use Rattle.serde_qs.specs.Meaning.{option_data}
use Rattle.serde_qs.specs.Names.{is_text}
use Rattle.serde_qs.specs.FieldTypes.{DatumFits, FieldsAreNamed, is_first_named}
use Rattle.serde_qs.specs.Records.{are_names, are_text_names, field_data, field_shape, first_of, others_of}
use Rattle.serde_qs.specs.Tuples.{ItemsFit}
use Rattle.serde_qs.specs.Variants.{AreNamed, KindFits, KindIsNamed, VariantsFit, are_variants, fits_one_of, kind_differs, kind_is_text, last_data, last_shape, name_in, variant_data, variant_shape, variants_are_text, variants_differ}
use Rattle.serde_qs.specs.declared.compound.variants.OneOf.TheVariants.{First, Later}
use Rattle.serde_qs.specs.internal.Booleans.{both_hold, both_true}
use Rattle.serde_qs.specs.internal.Fitting.{member_parts, pair_parts}
use Rattle.serde_qs.specs.internal.Names.{text_is_utf8}
use Rattle.serde_qs.specs.internal.FieldTypes.{other_field}
use Rattle.serde_qs.specs.internal.Variants.{other_name, variants_of_names}

-- the text of a string is UTF-8, by its type
pub string_is_utf8 : (s : String Global) → is_utf8 (string_bytes s) ≡ true
string_is_utf8 s = is_utf8-from_IsUtf8 (string_bytes s) (IsUtf8-string_bytes s)

-- two texts that differ, in either order
other_way : (a b : List ℕ) → bytes_eq a b ≡ false → bytes_eq b a ≡ false
other_way a b h =
    ⊎_elim
    (λ y. absurd (false≢true (sym h ∙ (bytes_eq-Decides a b).1 (sym ((bytes_eq-Decides b a).0 y)))))
    (λ f. f)
    (cases_Bool (bytes_eq b a))

-- a field that isn't among the members, which fit the fields after it
left_out : (n : List ℕ) (s : Shape) (fs : Fields) (ms : Members) → not (is_field_name n fs) ≡ true → is_first_named fs ms ≡ true → fits_fields fs ms ≡ true → fits_fields (one_field n s true fs) ms ≡ true
left_out n s fs no_members absent named h = h
left_out n s fs (one_member k x ms) absent named h =
    let rest = at_field (λ z rest. fits z x && fits_fields rest ms) k fs in
    let inner = both_hold (is_utf8 k) rest h in
    both_true inner.0 (ap (λ t. if t then fits s x && fits_fields fs ms else rest) (other_way k n (other_field n k fs absent named)) ∙ inner.1)

-- types that hold others

module _ {A : Type 0} (datum : A → Data) (s : Shape) (fit : DataFit datum s) (is_form : Bool) where
  pub option_fits : (o : Option A) → is_plain is_form (option_data datum o) ≡ true → fits (Shape.option s) (option_data datum o) ≡ true
  option_fits None h = refl
  option_fits (Some x) h = fit is_form x (both_hold (not (is_optional (datum x))) (is_plain is_form (datum x)) h).1

  each_fit : (xs : List A) → are_plain is_form (values_of (map datum xs)) ≡ true → each_fits s (values_of (map datum xs)) ≡ true
  each_fit [] h = refl
  each_fit (x ∷ xs) h =
      let parts = both_hold (is_plain is_form (datum x)) (are_plain is_form (values_of (map datum xs))) h in
      both_true (fit is_form x parts.0) (each_fit xs parts.1)

  pub sequence_fits : (xs : List A) → is_plain is_form (d.sequence (values_of (map datum xs))) ≡ true → fits (Shape.sequence s) (d.sequence (values_of (map datum xs))) ≡ true
  sequence_fits xs h = let vs = values_of (map datum xs) in each_fit xs (both_hold (are_few vs) (are_plain is_form vs) h).1

  pairs_fit : (es : List (String Global × A)) → are_plain_pairs is_form (pairs_of (map (entry_data datum) es)) ≡ true → fits_pairs KeyShape.text s (pairs_of (map (entry_data datum) es)) ≡ true
  pairs_fit [] h = refl
  pairs_fit (x ∷ es) h =
      let parts = pair_parts is_form (d.text (string_bytes x.0)) (datum x.1) (pairs_of (map (entry_data datum) es)) h in
      both_true (both_true (string_is_utf8 x.0) (fit is_form x.1 parts.0)) (pairs_fit es parts.1)

  pub mapping_fits : (es : List (String Global × A)) → is_plain is_form (d.mapping (pairs_of (map (entry_data datum) es))) ≡ true
      → fits (Shape.mapping KeyShape.text s) (d.mapping (pairs_of (map (entry_data datum) es))) ≡ true
  mapping_fits es h = let ps = pairs_of (map (entry_data datum) es) in pairs_fit es (both_hold (written_keys_differ ps) (are_plain_pairs is_form ps) h).1

  pub items_fit : {B : Type 0} (shape : List Shape) (written : B → List Data) → ItemsFit shape written
      → (a : A) (b : B) → are_plain is_form (d.one_value (datum a) (values_of (written b))) ≡ true → fits_tuple (one_shape s (shapes_of shape)) (d.one_value (datum a) (values_of (written b))) ≡ true
  items_fit shape written more a b h =
      let parts = both_hold (is_plain is_form (datum a)) (are_plain is_form (values_of (written b))) h in
      both_true (fit is_form a parts.0) (more is_form b parts.1)

-- a field, and those after it
pub field_fits : {B : Type 0} (is_form : Bool) (s : Shape) (o : Option Data) (optional : Bool) → DatumFits is_form s optional o
    → (shape : List (List ℕ) → List Field) (written : List (List ℕ) → B → List Named) → FieldsAreNamed shape written → FieldsFit shape written
    → (names : List (List ℕ)) (b : B) → field_names_differ (fields_of (field_shape s optional shape names)) ≡ true → are_text_names (fields_of (field_shape s optional shape names)) ≡ true
    → are_plain_members is_form (members_of (field_data o (λ ns. written ns b) names)) ≡ true
    → fits_fields (fields_of (field_shape s optional shape names)) (members_of (field_data o (λ ns. written ns b) names)) ≡ true
field_fits is_form s None false fit shape written named more names b k u h = absurd (false≢true fit)
field_fits is_form s None true fit shape written named more names b k u h =
    let n = first_of names in
    let later = others_of names in
    let fs = fields_of (shape later) in
    let differ = both_hold (not (is_field_name n fs)) (field_names_differ fs) k in
    let are_text = both_hold (is_text n) (are_text_names fs) u in
    left_out n s fs (members_of (written later b)) differ.0 (named later b) (more is_form later b differ.1 are_text.1 h)
field_fits is_form s (Some x) optional fit shape written named more names b k u h =
    let n = first_of names in
    let fs = fields_of (shape (others_of names)) in
    let ms = members_of (written (others_of names) b) in
    let parts = member_parts is_form n x ms h in
    let differ = both_hold (not (is_field_name n fs)) (field_names_differ fs) k in
    let are_text = both_hold (is_text n) (are_text_names fs) u in
    both_true (text_is_utf8 n are_text.0)
    (ap (λ t. if t then fits s x && fits_fields fs ms else (optional && at_field (λ z rest. fits z x && fits_fields rest ms) n fs)) ((bytes_eq-Decides n n).1 refl)
    ∙ both_true (fit parts.0) (more is_form (others_of names) b differ.1 are_text.1 parts.1))

-- no members fit no fields
pub nothing_fits : {A : Type 0} (is_form : Bool) (names : List (List ℕ)) (x : A) → true ≡ true → true ≡ true → true ≡ true → fits_fields no_fields no_members ≡ true
nothing_fits is_form names x k u h = refl

pub struct_fits : {A : Type 0} (count : ℕ) (shape : List (List ℕ) → List Field) (written : List (List ℕ) → A → List Named) → FieldsFit shape written
    → (unknown : UnknownKeys) (is_form : Bool) (names : List (List ℕ)) (x : A) → are_names names count (shape names) ≡ true → is_plain is_form (d.struct (members_of (written names x))) ≡ true
    → fits (Shape.struct unknown (fields_of (shape names))) (d.struct (members_of (written names x))) ≡ true
struct_fits count shape written fit unknown is_form names x k h =
    let fs = fields_of (shape names) in
    let ms = members_of (written names x) in
    let named = both_hold (length names == count) (field_names_differ fs && are_text_names fs) k in
    let both = both_hold (field_names_differ fs) (are_text_names fs) named.1 in
    fit is_form names x both.0 both.1 (both_hold (has_members ms && member_names_differ ms) (are_plain_members is_form ms) h).1

-- tuples, and what variants hold

module _ {A : Type 0} (shape : List Shape) (written : A → List Data) (fit : ItemsFit shape written) (is_form : Bool) where
  pub tuple_fits : (x : A) → is_plain is_form (d.tuple (values_of (written x))) ≡ true → fits (Shape.tuple (shapes_of shape)) (d.tuple (values_of (written x))) ≡ true
  tuple_fits x h = let vs = values_of (written x) in fit is_form x (both_hold (are_few vs) (are_plain is_form vs) h).1

  pub tuple_variant_fits : (n : List ℕ) (x : A) → is_plain is_form (d.tuple_variant n (values_of (written x))) ≡ true → fits_tuple (shapes_of shape) (values_of (written x)) ≡ true
  tuple_variant_fits n x h = let vs = values_of (written x) in fit is_form x (both_hold (is_plain_name is_form n && has_values vs && are_few vs) (are_plain is_form vs) h).1

pub newtype_variant_fits : {A : Type 0} (datum : A → Data) (s : Shape) → DataFit datum s → (is_form : Bool) (n : List ℕ) (x : A) → is_plain is_form (d.newtype_variant n (datum x)) ≡ true → fits s (datum x) ≡ true
newtype_variant_fits datum s fit is_form n x h = fit is_form x (both_hold (is_plain_name is_form n) (is_plain is_form (datum x)) h).1

pub struct_variant_fits : {A : Type 0} (shape : List (List ℕ) → List Field) (written : List (List ℕ) → A → List Named) → FieldsFit shape written
    → (is_form : Bool) (n : List ℕ) (names : List (List ℕ)) (x : A) → field_names_differ (fields_of (shape names)) ≡ true → are_text_names (fields_of (shape names)) ≡ true
    → is_plain is_form (d.struct_variant n (members_of (written names x))) ≡ true → fits_fields (fields_of (shape names)) (members_of (written names x)) ≡ true
struct_variant_fits shape written fit is_form n names x k u h =
    let ms = members_of (written names x) in
    fit is_form names x k u (both_hold (is_plain_name is_form n && has_members ms && member_names_differ ms) (are_plain_members is_form ms) h).1

-- the variants of an enum

this_fits : (n : List ℕ) (k : VariantKind) (vs : Variants) (x : Data) → name_in x ≡ n → is_text n ≡ true → fits_variant (Some k) x ≡ true → fits_one_of (one_variant n k vs) x ≡ true
this_fits n k vs x named u h =
    both_true (ap is_utf8 named ∙ text_is_utf8 n u) (ap (λ t. fits_variant (if t then Some k else variant_kind (name_in x) vs) x) ((bytes_eq-Decides n (name_in x)).1 (sym named)) ∙ h)

other_fits : (n : List ℕ) (k : VariantKind) (vs : Variants) (x : Data) → not (is_variant_name n vs) ≡ true → is_variant_name (name_in x) vs ≡ true → fits_one_of vs x ≡ true
    → fits_one_of (one_variant n k vs) x ≡ true
other_fits n k vs x absent present h =
    ap (λ t. is_utf8 (name_in x) && fits_variant (if t then Some k else variant_kind (name_in x) vs) x) (other_way (name_in x) n (other_name n (name_in x) vs absent present)) ∙ h

enumeration_fits : (vs : Variants) (x : Data) → fits_one_of vs x ≡ true → fits (Shape.enumeration vs) x ≡ true
enumeration_fits vs (d.unit_variant n) h = h
enumeration_fits vs (d.newtype_variant n x) h = h
enumeration_fits vs (d.tuple_variant n xs) h = h
enumeration_fits vs (d.struct_variant n ms) h = h
enumeration_fits vs x h = absurd (false≢true (both_hold (is_utf8 (name_in x)) (fits_variant (variant_kind (name_in x) vs) x) h).1)

pub last_fits : {A : Type 0} (shape : List (List ℕ) → VariantKind) (written : List ℕ → List (List ℕ) → A → Data) → KindIsNamed written → KindFits shape written
    → VariantsFit (last_shape shape) (last_data written)
last_fits shape written named fit is_form names x k u h =
    let n = first_of names in
    let later = others_of names in
    let differ = both_hold (kind_differs (shape later)) true k in
    let are_text = both_hold (is_text n) (kind_is_text (shape later) && true) u in
    let inner = both_hold (kind_is_text (shape later)) true are_text.1 in
    this_fits n (shape later) no_variants (written n later x) (named n later x) are_text.0 (fit is_form n later x differ.0 inner.0 h)

pub one_fits : {A B : Type 0} (shape : List (List ℕ) → VariantKind) (written : List ℕ → List (List ℕ) → A → Data) → KindIsNamed written → KindFits shape written
    → (after : List (List ℕ) → List (List ℕ)) (rest : List (List ℕ) → List Variant) (more : List (List ℕ) → B → Data) → AreNamed rest more → VariantsFit rest more
    → VariantsFit (variant_shape shape after rest) (variant_data written after more)
one_fits shape written named fit after rest more present others is_form names (First x) k u h =
    let n = first_of names in
    let later = others_of names in
    let vs = variants_of (rest (after later)) in
    let differ = both_hold (not (is_variant_name n vs)) (kind_differs (shape later) && variants_differ vs) k in
    let are_text = both_hold (is_text n) (kind_is_text (shape later) && variants_are_text vs) u in
    let one_differs = both_hold (kind_differs (shape later)) (variants_differ vs) differ.1 in
    let one_is_text = both_hold (kind_is_text (shape later)) (variants_are_text vs) are_text.1 in
    this_fits n (shape later) vs (written n later x) (named n later x) are_text.0 (fit is_form n later x one_differs.0 one_is_text.0 h)
one_fits shape written named fit after rest more present others is_form names (Later y) k u h =
    let n = first_of names in
    let later = others_of names in
    let vs = variants_of (rest (after later)) in
    let differ = both_hold (not (is_variant_name n vs)) (kind_differs (shape later) && variants_differ vs) k in
    let are_text = both_hold (is_text n) (kind_is_text (shape later) && variants_are_text vs) u in
    let others_differ = both_hold (kind_differs (shape later)) (variants_differ vs) differ.1 in
    let others_are_text = both_hold (kind_is_text (shape later)) (variants_are_text vs) are_text.1 in
    other_fits n (shape later) vs (more (after later) y) differ.0 (present (after later) y) (others is_form (after later) y others_differ.1 others_are_text.1 h)

pub enum_fits : {A : Type 0} (count : ℕ) (shape : List (List ℕ) → List Variant) (written : List (List ℕ) → A → Data) → VariantsFit shape written
    → (is_form : Bool) (names : List (List ℕ)) (x : A) → are_variants names count (shape names) ≡ true → is_plain is_form (written names x) ≡ true → fits (Shape.enumeration (variants_of (shape names))) (written names x) ≡ true
enum_fits count shape written fit is_form names x k h =
    let both = variants_of_names names count (shape names) k in
    enumeration_fits (variants_of (shape names)) (written names x) (fit is_form names x both.0 both.1 h)
