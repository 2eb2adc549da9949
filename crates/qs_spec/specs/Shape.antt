-- Shapes: what is to be read.
use Rattle.std.specs.Prelude.{ℕ, Bool, true, false, not, ◌&&◌, ◌||◌, List, [], ◌∷◌}
use Rattle.std.specs.List.{list_any}
use Rattle.std.specs.Str.{bytes_eq}

-- how the text of a map's key is read; a number has a count of bits
pub data KeyShape : Type 0 where
  boolean : KeyShape
  unsigned : (bits : ℕ) → KeyShape
  signed : (bits : ℕ) → KeyShape
  character : KeyShape
  text : KeyShape
  variants : (names : List (List ℕ)) → KeyShape

-- map keys that are no field of a struct: ignored or rejected
pub data UnknownKeys : Type 0 where
  ignored : UnknownKeys
  rejected : UnknownKeys

-- An optional field is left out if it is missing.
mutual
  pub data Shape : Type 0 where
    unit : Shape
    boolean : Shape
    unsigned : (bits : ℕ) → Shape
    signed : (bits : ℕ) → Shape
    character : Shape
    text : Shape
    bytes : Shape
    option : Shape → Shape
    sequence : Shape → Shape
    tuple : Shapes → Shape
    mapping : KeyShape → Shape → Shape
    struct : UnknownKeys → Fields → Shape
    newtype : Shape → Shape
    enumeration : Variants → Shape
    any : Shape
    ignored : Shape

  pub data Shapes : Type 0 where
    no_shapes : Shapes
    one_shape : Shape → Shapes → Shapes

  pub data Fields : Type 0 where
    no_fields : Fields
    one_field : (name : List ℕ) → Shape → (optional : Bool) → Fields → Fields

  pub data Variants : Type 0 where
    no_variants : Variants
    one_variant : (name : List ℕ) → VariantKind → Variants → Variants

  pub data VariantKind : Type 0 where
    unit_kind : VariantKind
    newtype_kind : Shape → VariantKind
    tuple_kind : Shapes → VariantKind
    struct_kind : UnknownKeys → Fields → VariantKind

-- a field's name, shape, and whether it is optional
abbrev pub Field : Type 0
Field = List ℕ × Shape × Bool

-- a variant's name, and what it holds
abbrev pub Variant : Type 0
Variant = List ℕ × VariantKind

-- lists of shapes, of fields and of variants, as a shape holds them
abbrev pub shapes_of : List Shape → Shapes
shapes_of [] = no_shapes
shapes_of (s ∷ ss) = one_shape s (shapes_of ss)

abbrev pub fields_of : List Field → Fields
fields_of [] = no_fields
fields_of (f ∷ fs) = one_field f.0 f.1 f.2 (fields_of fs)

abbrev pub variants_of : List Variant → Variants
variants_of [] = no_variants
variants_of (v ∷ vs) = one_variant v.0 v.1 (variants_of vs)

-- unknown keys are ignored
abbrev pub are_ignored : UnknownKeys → Bool
are_ignored UnknownKeys.ignored = true
are_ignored UnknownKeys.rejected = false

-- the shape is an option
abbrev pub is_option : Shape → Bool
is_option (Shape.option s) = true
is_option _ = false

-- a field has this name
abbrev pub is_field_name : List ℕ → Fields → Bool
is_field_name name no_fields = false
is_field_name name (one_field n s o fs) = bytes_eq n name || is_field_name name fs

-- a variant has this name
abbrev pub is_variant_name : List ℕ → Variants → Bool
is_variant_name name no_variants = false
is_variant_name name (one_variant n k vs) = bytes_eq n name || is_variant_name name vs

-- no two fields, no two variants, and no two names of a key's shape are equal
abbrev pub field_names_differ : Fields → Bool
field_names_differ no_fields = true
field_names_differ (one_field n s o fs) = not (is_field_name n fs) && field_names_differ fs

abbrev pub variant_names_differ : Variants → Bool
variant_names_differ no_variants = true
variant_names_differ (one_variant n k vs) = not (is_variant_name n vs) && variant_names_differ vs

abbrev pub names_differ : List (List ℕ) → Bool
names_differ [] = true
names_differ (n ∷ ns) = not (list_any (bytes_eq n) ns) && names_differ ns

abbrev pub is_distinct_key : KeyShape → Bool
is_distinct_key (KeyShape.variants names) = names_differ names
is_distinct_key _ = true

-- field names differ in every struct and struct variant, and variant names in every enum and key shape
abbrev mutual
  pub is_distinct : Shape → Bool
  is_distinct Shape.unit = true
  is_distinct Shape.boolean = true
  is_distinct (Shape.unsigned bits) = true
  is_distinct (Shape.signed bits) = true
  is_distinct Shape.character = true
  is_distinct Shape.text = true
  is_distinct Shape.bytes = true
  is_distinct (Shape.option s) = is_distinct s
  is_distinct (Shape.sequence s) = is_distinct s
  is_distinct (Shape.tuple ss) = are_distinct ss
  is_distinct (Shape.mapping k s) = is_distinct_key k && is_distinct s
  is_distinct (Shape.struct u fs) = field_names_differ fs && are_distinct_fields fs
  is_distinct (Shape.newtype s) = is_distinct s
  is_distinct (Shape.enumeration vs) = variant_names_differ vs && are_distinct_variants vs
  is_distinct Shape.any = true
  is_distinct Shape.ignored = true

  pub are_distinct : Shapes → Bool
  are_distinct no_shapes = true
  are_distinct (one_shape s ss) = is_distinct s && are_distinct ss

  pub are_distinct_fields : Fields → Bool
  are_distinct_fields no_fields = true
  are_distinct_fields (one_field n s o fs) = is_distinct s && are_distinct_fields fs

  pub are_distinct_variants : Variants → Bool
  are_distinct_variants no_variants = true
  are_distinct_variants (one_variant n k vs) = is_distinct_kind k && are_distinct_variants vs

  pub is_distinct_kind : VariantKind → Bool
  is_distinct_kind unit_kind = true
  is_distinct_kind (newtype_kind s) = is_distinct s
  is_distinct_kind (tuple_kind ss) = are_distinct ss
  is_distinct_kind (struct_kind u fs) = field_names_differ fs && are_distinct_fields fs
