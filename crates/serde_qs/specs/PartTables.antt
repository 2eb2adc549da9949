-- Tables of what structs and enums are made of.
use Rattle.std.specs.Prelude.{◌≡◌, ℕ, suc, ◌+◌, ◌==◌, Bool, true, List, [], ◌∷◌, length, map, Option, Some, None, is_some, option_map, refl}
use Rattle.qs_spec.specs.Data as d
use Rattle.qs_spec.specs.Data.{Data, Members, Named, Values, members_of, values_of}
use Rattle.qs_spec.specs.Shape as s
use Rattle.qs_spec.specs.Shape.{Shape, Field, fields_of, shapes_of, variants_of, Variant, VariantKind, UnknownKeys, is_distinct, are_distinct, are_distinct_fields}
use Rattle.serde_qs.specs.ComesBack.{FieldsComeBack, FieldsFit, PartsComeBack, PartsFit}
use Rattle.serde_qs.specs.FieldTypes.{FieldComesBack, FieldFits, FieldsAreNamed, absent}
use Rattle.serde_qs.specs.Meaning.{newtype_in}
use Rattle.serde_qs.specs.Names.{NamesSuitFields, suited}
use Rattle.serde_qs.specs.Records.{are_names, field_data, field_shape, field_in, nothing_in, others_of, struct_in}
use Rattle.serde_qs.specs.Tables.{Table, table_with}
use Rattle.serde_qs.specs.Tuples.{ItemsComeBack, ItemsFit, item_in, no_item_in, tuple_in, tuple_variant_in}
use Rattle.serde_qs.specs.Variants.{AreDistinct, AreNamed, KindComesBack, KindFits, KindIsDistinct, KindIsNamed, VariantsComeBack, VariantsFit, are_variants, each, last_data, last_shape, last_in, newtype_variant_in, struct_variant_in, unit_variant_in, variant_data, variant_shape, variant_in}
use Rattle.serde_qs.specs.declared.compound.defaulted.Defaulted.{Defaulted}
use Rattle.serde_qs.specs.declared.compound.optional.Optional.{Optional}
use Rattle.serde_qs.specs.declared.compound.parts.Enum.{Enum}
use Rattle.serde_qs.specs.declared.compound.payloads.Newtype.{Newtype}
use Rattle.serde_qs.specs.declared.compound.payloads.Tuple.{Tuple}
use Rattle.serde_qs.specs.declared.compound.variants.Last.{Last}
use Rattle.serde_qs.specs.declared.compound.variants.OneOf.{OneOf}
use Rattle.serde_qs.specs.internal.Booleans.{both_true}
use Rattle.serde_qs.specs.internal.ComesBack.{newtype_back, nothing_back, struct_back}
use Rattle.serde_qs.specs.internal.FieldTypes.{field_back, field_named, some_back, some_fits}
use Rattle.serde_qs.specs.internal.Fits.{enum_fits, field_fits, items_fit, last_fits, newtype_variant_fits, nothing_fits, one_fits, struct_fits, struct_variant_fits, tuple_fits, tuple_variant_fits}
use Rattle.serde_qs.specs.internal.Records.{differ}
use Rattle.serde_qs.specs.internal.Tuples.{items_back, no_item_back, tuple_back, tuple_variant_back}
use Rattle.serde_qs.specs.internal.Variants.{enum_back, enum_distinct, last_back, last_distinct, last_named, newtype_variant_back, one_back, one_distinct, one_named, struct_variant_back, unit_variant_back}

-- The fields of a struct: how many there are and, by their names, what is read for them, their data, and what members mean. The first
-- member that is written has the name of a field. If the names differ and are UTF-8, plain data of fields fits, the fields come back from
-- it, and no struct or enum in their shapes has a name twice.
pub record FieldsTable (A : Type 0) : Type 1 where
  pub Value : Type 0
  pub value : A → Value
  pub count : ℕ
  pub after : List (List ℕ) → List (List ℕ)
  pub shape : List (List ℕ) → List Field
  pub written : List (List ℕ) → A → List Named
  pub meaning : List (List ℕ) → Members → Option Value
  pub named : FieldsAreNamed shape written
  pub fit : FieldsFit shape written
  pub come_back : FieldsComeBack shape written meaning value
  pub are_distinct : (names : List (List ℕ)) → are_distinct_fields (fields_of (shape names)) ≡ true

-- a struct without fields
abbrev pub no_fields : FieldsTable (Unit {0})
no_fields = record {
  Value = Unit {0};
  value = λ x. tt;
  count = 0;
  after = λ names. names;
  shape = λ names. [];
  written = λ names x. [];
  meaning = λ names ms. nothing_in ms;
  named = λ names x. refl;
  fit = nothing_fits;
  come_back = nothing_back;
  are_distinct = λ names. refl;
}

-- A field: what it holds, its data, unless it is left out, its shape, what data means, and what it is if it is missing, where it may be. The
-- data fits the shape if it is plain, and the value comes back from it.
pub record FieldTable (A : Type 0) : Type 1 where
  pub Value : Type 0
  pub value : A → Value
  pub datum : A → Option Data
  pub shape : Shape
  pub meaning : Data → Option Value
  pub missing : Option (Option Value)
  pub distinct : is_distinct shape ≡ true
  pub fits : FieldFits datum shape (is_some missing)
  pub comes_back : FieldComesBack datum meaning (absent missing) value

-- a field that must be there
abbrev pub required : {A : Type 0} → Table A → FieldTable A
required t = record {
  Value = t.Value;
  value = t.value;
  datum = λ x. Some (t.datum x);
  shape = t.shape;
  meaning = t.meaning;
  missing = None;
  distinct = t.distinct;
  fits = λ is_form x. t.fit is_form x;
  comes_back = λ is_form x e h p. t.comes_back is_form x e h p;
}

-- a field that may be left out
abbrev pub optional : {A : Type 0} → Table A → FieldTable (Optional A)
optional t = record {
  Value = Option t.Value;
  value = λ x. option_map t.value x.0;
  datum = λ x. option_map t.datum x.0;
  shape = t.shape;
  meaning = λ e. option_map Some (t.meaning e);
  missing = Some (Some None);
  distinct = t.distinct;
  fits = λ is_form x. some_fits t.datum t.shape t.fit is_form x.0;
  comes_back = λ is_form x. some_back t.datum t.meaning t.value t.comes_back is_form x.0;
}

-- a field that has the value of this data if it is missing
abbrev pub defaulted : {A : Type 0} → Data → Table A → FieldTable (Defaulted A)
defaulted default t = record {
  Value = t.Value;
  value = λ x. t.value x.0;
  datum = λ x. Some (t.datum x.0);
  shape = t.shape;
  meaning = t.meaning;
  missing = Some (t.meaning default);
  distinct = t.distinct;
  fits = λ is_form x. t.fit is_form x.0;
  comes_back = λ is_form x e h p. t.comes_back is_form x.0 e h p;
}

-- a field, and the fields after it
abbrev pub field : {A B : Type 0} → FieldTable A → FieldsTable B → FieldsTable (A × B)
field f r = record {
  Value = f.Value × r.Value;
  value = λ x. (f.value x.0, r.value x.1);
  count = suc r.count;
  after = λ names. r.after (others_of names);
  shape = λ names. field_shape f.shape (is_some f.missing) r.shape names;
  written = λ names x. field_data (f.datum x.0) (λ ns. r.written ns x.1) names;
  meaning = λ names ms. field_in (absent f.missing) f.meaning r.meaning names ms;
  named = λ names x. field_named f.shape (is_some f.missing) r.shape r.written r.named names (f.datum x.0) x.1;
  fit = λ is_form names x k u h. field_fits is_form f.shape (f.datum x.0) (is_some f.missing) (f.fits is_form x.0) r.shape r.written r.named r.fit names x.1 k u h;
  come_back = λ is_form names x ms k h p. field_back f.meaning (absent f.missing) (f.value x.0) is_form (f.datum x.0) (f.comes_back is_form x.0) r.shape r.written r.meaning r.value r.named r.come_back f.shape (is_some f.missing) names x.1 ms k h p;
  are_distinct = λ names. both_true f.distinct (r.are_distinct (others_of names));
}

-- the items of a tuple
pub record ItemsTable (A : Type 0) : Type 1 where
  pub Value : Type 0
  pub value : A → Value
  pub shape : List Shape
  pub written : A → List Data
  pub meaning : Values → Option Value
  pub fit : ItemsFit shape written
  pub come_back : ItemsComeBack written meaning value
  pub distinct : are_distinct (shapes_of shape) ≡ true

-- a tuple without items
abbrev pub no_items : ItemsTable (Unit {0})
no_items = record {
  Value = Unit {0};
  value = λ x. tt;
  shape = [];
  written = λ x. [];
  meaning = λ ds. no_item_in ds;
  fit = λ is_form x h. refl;
  come_back = no_item_back;
  distinct = refl;
}

-- an item, and the items after it
abbrev pub item : {A B : Type 0} → Table A → ItemsTable B → ItemsTable (A × B)
item t r = record {
  Value = t.Value × r.Value;
  value = λ x. (t.value x.0, r.value x.1);
  shape = t.shape ∷ r.shape;
  written = λ x. t.datum x.0 ∷ r.written x.1;
  meaning = λ ds. item_in t.meaning r.meaning ds;
  fit = λ is_form x h. items_fit t.datum t.shape t.fit is_form r.shape r.written r.fit x.0 x.1 h;
  come_back = λ is_form x es h p. items_back t.datum t.meaning t.value t.comes_back r.written r.meaning r.value r.come_back is_form x.0 x.1 es h p;
  distinct = both_true t.distinct r.distinct;
}

-- What a variant holds: how many names it has in addition to its own and, by them, what is read for it, its data under its name, and what
-- such data means. Its data has that name. If the names differ and are UTF-8, its data fits if it is plain, the variant comes back from the
-- data, and no struct or enum in its shapes has a name twice.
pub record PayloadTable (A : Type 0) : Type 1 where
  pub Value : Type 0
  pub value : A → Value
  pub count : ℕ
  pub after : List (List ℕ) → List (List ℕ)
  pub shape : List (List ℕ) → VariantKind
  pub written : List ℕ → List (List ℕ) → A → Data
  pub meaning : List (List ℕ) → Data → Option Value
  pub named : KindIsNamed written
  pub fits : KindFits shape written
  pub comes_back : KindComesBack shape written meaning value
  pub is_distinct : KindIsDistinct shape

-- a variant that holds nothing
abbrev pub unit_payload : PayloadTable (Unit {0})
unit_payload = record {
  Value = Unit {0};
  value = λ x. tt;
  count = 0;
  after = λ names. names;
  shape = λ names. s.unit_kind;
  written = λ n names x. d.unit_variant n;
  meaning = λ names x. unit_variant_in x;
  named = λ n names x. refl;
  fits = λ is_form n names x k u h. refl;
  comes_back = λ is_form n names x e k h p. unit_variant_back n e p;
  is_distinct = λ names k. refl;
}

-- a variant that holds one value
abbrev pub newtype_payload : {A : Type 0} → Table A → PayloadTable (Newtype A)
newtype_payload t = record {
  Value = t.Value;
  value = λ x. t.value x.0;
  count = 0;
  after = λ names. names;
  shape = λ names. s.newtype_kind t.shape;
  written = λ n names x. d.newtype_variant n (t.datum x.0);
  meaning = λ names x. newtype_variant_in t.meaning x;
  named = λ n names x. refl;
  fits = λ is_form n names x k u h. newtype_variant_fits t.datum t.shape t.fit is_form n x.0 h;
  comes_back = λ is_form n names x e k h p. newtype_variant_back t.datum t.meaning t.value t.comes_back is_form n x.0 e h p;
  is_distinct = λ names k. t.distinct;
}

-- a variant that holds items
abbrev pub tuple_payload : {A : Type 0} → ItemsTable A → PayloadTable (Tuple A)
tuple_payload t = record {
  Value = t.Value;
  value = λ x. t.value x.0;
  count = 0;
  after = λ names. names;
  shape = λ names. s.tuple_kind (shapes_of t.shape);
  written = λ n names x. d.tuple_variant n (values_of (t.written x.0));
  meaning = λ names x. tuple_variant_in t.meaning x;
  named = λ n names x. refl;
  fits = λ is_form n names x k u h. tuple_variant_fits t.shape t.written t.fit is_form n x.0 h;
  comes_back = λ is_form n names x e k h p. tuple_variant_back t.written t.meaning t.value t.come_back is_form n x.0 e h p;
  is_distinct = λ names k. t.distinct;
}

-- a variant that holds fields, in whatever they are kept, and what it does with unknown keys
abbrev pub fields_payload : {A B : Type 0} → UnknownKeys → (B → A) → FieldsTable A → PayloadTable B
fields_payload unknown kept t = record {
  Value = t.Value;
  value = λ x. t.value (kept x);
  count = t.count;
  after = t.after;
  shape = λ names. s.struct_kind unknown (fields_of (t.shape names));
  written = λ n names x. d.struct_variant n (members_of (t.written names (kept x)));
  meaning = λ names x. struct_variant_in (t.meaning names) x;
  named = λ n names x. refl;
  fits = λ is_form n names x k u h. struct_variant_fits t.shape t.written t.fit is_form n names (kept x) k u h;
  comes_back = λ is_form n names x e k h p. struct_variant_back t.shape t.written t.meaning t.value t.come_back is_form n names (kept x) e k h p;
  is_distinct = λ names k. both_true k (t.are_distinct names);
}

-- the variants of an enum, by their names and their fields' names
pub record VariantsTable (A : Type 0) : Type 1 where
  pub Value : Type 0
  pub value : A → Value
  pub count : ℕ
  pub shape : List (List ℕ) → List Variant
  pub written : List (List ℕ) → A → Data
  pub meaning : List (List ℕ) → Data → Option Value
  pub named : AreNamed shape written
  pub fit : VariantsFit shape written
  pub come_back : VariantsComeBack shape written meaning value
  pub are_distinct : AreDistinct shape

-- the last variant
abbrev pub last_variant : {A : Type 0} → PayloadTable A → VariantsTable (Last A)
last_variant t = record {
  Value = t.Value;
  value = λ x. t.value x.0;
  count = suc t.count;
  shape = λ names. last_shape t.shape names;
  written = λ names x. last_data t.written names x.0;
  meaning = λ names x. last_in t.meaning names x;
  named = λ names x. last_named t.shape t.written t.named names x.0;
  fit = λ is_form names x k u h. last_fits t.shape t.written t.named t.fits is_form names x.0 k u h;
  come_back = λ is_form names x e k h p. last_back t.shape t.written t.meaning t.value t.named t.comes_back is_form names x.0 e k h p;
  are_distinct = λ names k. last_distinct t.shape t.is_distinct names k;
}

-- a variant, and the variants after it
abbrev pub one_variant : {A B : Type 0} → PayloadTable A → VariantsTable B → VariantsTable (OneOf A B)
one_variant t r = record {
  Value = OneOf t.Value r.Value;
  value = λ x. each t.value r.value x;
  count = suc t.count + r.count;
  shape = λ names. variant_shape t.shape t.after r.shape names;
  written = λ names x. variant_data t.written t.after r.written names x;
  meaning = λ names x. variant_in t.meaning t.after r.meaning names x;
  named = λ names x. one_named t.shape t.written t.named t.after r.shape r.written r.named names x;
  fit = λ is_form names x k u h. one_fits t.shape t.written t.named t.fits t.after r.shape r.written r.named r.fit is_form names x k u h;
  come_back = λ is_form names x e k h p. one_back t.shape t.written t.meaning t.value t.named t.comes_back t.after r.shape r.written r.meaning r.value r.named r.come_back is_form names x e k h p;
  are_distinct = λ names k. one_distinct t.shape t.is_distinct t.after r.shape r.are_distinct names k;
}

-- Whatever a type is made of. There are as many names as the parts need, no two that belong together are equal, and each is UTF-8.
pub record PartsTable (A : Type 0) : Type 1 where
  pub Value : Type 0
  pub value : A → Value
  pub are_named : List (List ℕ) → Bool
  pub shape : List (List ℕ) → Shape
  pub written : List (List ℕ) → A → Data
  pub meaning : List (List ℕ) → Data → Option Value
  pub fit : PartsFit are_named shape written
  pub come_back : PartsComeBack are_named written meaning value
  pub distinct : (names : List (List ℕ)) → are_named names ≡ true → is_distinct (shape names) ≡ true

-- a struct of fields, in whatever they are kept, and what it does with unknown keys
abbrev pub fields_parts : {A B : Type 0} → UnknownKeys → (B → A) → FieldsTable A → PartsTable B
fields_parts unknown kept t = record {
  Value = t.Value;
  value = λ x. t.value (kept x);
  are_named = λ names. are_names names t.count (t.shape names);
  shape = λ names. Shape.struct unknown (fields_of (t.shape names));
  written = λ names x. d.struct (members_of (t.written names (kept x)));
  meaning = λ names x. struct_in (t.meaning names) x;
  fit = λ is_form names x k h. struct_fits t.count t.shape t.written t.fit unknown is_form names (kept x) k h;
  come_back = λ is_form names x e k h p. struct_back t.count t.shape t.written t.meaning t.value t.come_back is_form names (kept x) e k h p;
  distinct = λ names k. differ unknown names t.count (t.shape names) k (t.are_distinct names);
}

-- an enum
abbrev pub enum_parts : {A : Type 0} → VariantsTable A → PartsTable (Enum A)
enum_parts t = record {
  Value = t.Value;
  value = λ x. t.value x.0;
  are_named = λ names. are_variants names t.count (t.shape names);
  shape = λ names. Shape.enumeration (variants_of (t.shape names));
  written = λ names x. t.written names x.0;
  meaning = λ names x. t.meaning names x;
  fit = λ is_form names x k h. enum_fits t.count t.shape t.written t.fit is_form names x.0 k h;
  come_back = λ is_form names x e k h p. enum_back t.count t.shape t.written t.meaning t.value t.come_back is_form names x.0 e k h p;
  distinct = λ names k. enum_distinct t.count t.shape t.are_distinct names k;
}

-- a newtype
abbrev pub newtype_parts : {A : Type 0} → Table A → PartsTable (Newtype A)
newtype_parts t = record {
  Value = t.Value;
  value = λ x. t.value x.0;
  are_named = λ names. length names == 0;
  shape = λ names. Shape.newtype t.shape;
  written = λ names x. d.newtype (t.datum x.0);
  meaning = λ names x. newtype_in t.meaning x;
  fit = λ is_form names x k h. t.fit is_form x.0 h;
  come_back = λ is_form names x e k h p. newtype_back t.datum t.meaning t.value t.comes_back is_form x.0 e h p;
  distinct = λ names k. t.distinct;
}

-- a tuple
abbrev pub tuple_parts : {A : Type 0} → ItemsTable A → PartsTable (Tuple A)
tuple_parts t = record {
  Value = t.Value;
  value = λ x. t.value x.0;
  are_named = λ names. length names == 0;
  shape = λ names. Shape.tuple (shapes_of t.shape);
  written = λ names x. d.tuple (values_of (t.written x.0));
  meaning = λ names x. tuple_in t.meaning x;
  fit = λ is_form names x k h. tuple_fits t.shape t.written t.fit is_form x.0 h;
  come_back = λ is_form names x e k h p. tuple_back t.written t.meaning t.value t.come_back is_form x.0 e h p;
  distinct = λ names k. t.distinct;
}

-- the names in a constant of a program, `NAMES.now`
abbrev pub names_in : List (record { now : List ℕ }) → List (List ℕ)
names_in names = map (λ n. n.now) names

-- A struct or an enum by its parts, under these names, which suit the parts.
abbrev pub made_of : {A B : Type 0} (t : PartsTable B) (names : List (record { now : List ℕ })) (parts : A → B) → NamesSuitFields (t.are_named (names_in names)) → Table A
made_of t names parts suit =
    let ns : List (List ℕ) = names_in names in
    let named = suited (t.are_named ns) suit in
    table_with (λ x. t.value (parts x)) (λ x. t.written ns (parts x)) (t.shape ns) (t.meaning ns) (t.distinct ns named) (λ is_form x h. t.fit is_form ns (parts x) named h)
    (λ is_form x e h p. t.come_back is_form ns (parts x) e named h p)
