-- Data that fits a shape: both have the same kind at each place. Nothing fits `any` or `ignored`.
use Rattle.std.specs.Prelude.{ℕ, ◌+◌, ◌-◌, ◌^◌, ℤ, pos, negsuc, Bool, true, false, ◌&&◌, ◌||◌, nat_lt, nat_le, List, Option, Some, None, if◌then◌else◌}
use Rattle.std.specs.List.{list_any, list_all}
use Rattle.std.specs.Str.{bytes_eq, is_utf8}
use Rattle.qs_spec.specs.Data.{Data, Values, no_values, one_value, Pairs, no_pairs, one_pair, Members, no_members, one_member}
use Rattle.qs_spec.specs.Shape.{Shape, Shapes, no_shapes, one_shape, Fields, no_fields, one_field, Variants, no_variants, one_variant, VariantKind, unit_kind, newtype_kind, tuple_kind, struct_kind, KeyShape}

-- a number of this many bits, at most 64
abbrev pub fits_unsigned : ℕ → ℕ → Bool
fits_unsigned bits n = nat_lt n (2 ^ bits) && nat_lt n (2 ^ 64)

-- from -2 ^ (bits - 1) up to 2 ^ (bits - 1) - 1
abbrev pub fits_signed : ℕ → ℤ → Bool
fits_signed bits (pos n) = nat_lt n (2 ^ (bits - 1)) && nat_lt n (2 ^ 64)
fits_signed bits (negsuc n) = nat_lt n (2 ^ (bits - 1)) && nat_lt (n + 1) (2 ^ 64)

-- a Unicode scalar value
abbrev pub is_scalar : ℕ → Bool
is_scalar c = nat_lt c 55296 || (nat_le 57344 c && nat_lt c 1114112)

-- below 256
abbrev pub is_byte : ℕ → Bool
is_byte b = nat_lt b 256

-- a key by a key shape
abbrev pub fits_key : KeyShape → Data → Bool
fits_key KeyShape.boolean (Data.boolean b) = true
fits_key (KeyShape.unsigned bits) (Data.unsigned n) = fits_unsigned bits n
fits_key (KeyShape.signed bits) (Data.signed z) = fits_signed bits z
fits_key KeyShape.character (Data.character c) = is_scalar c
fits_key KeyShape.text (Data.text t) = is_utf8 t
fits_key (KeyShape.variants names) (Data.unit_variant name) = list_any (bytes_eq name) names && is_utf8 name
fits_key _ _ = false

-- the kind of the variant of a name
abbrev pub variant_kind : List ℕ → Variants → Option VariantKind
variant_kind name no_variants = None
variant_kind name (one_variant n k vs) = if bytes_eq n name then Some k else variant_kind name vs

-- there is a variant, and it holds nothing
abbrev pub is_unit : Option VariantKind → Bool
is_unit (Some unit_kind) = true
is_unit _ = false

-- there is a variant, and what it holds passes a test: a value, the items of a tuple, or fields
abbrev pub by_newtype : (Shape → Bool) → Option VariantKind → Bool
by_newtype fits (Some (newtype_kind s)) = fits s
by_newtype fits _ = false

abbrev pub by_tuple : (Shapes → Bool) → Option VariantKind → Bool
by_tuple fits (Some (tuple_kind ss)) = fits ss
by_tuple fits _ = false

abbrev pub by_struct : (Fields → Bool) → Option VariantKind → Bool
by_struct fits (Some (struct_kind u fs)) = fits fs
by_struct fits _ = false

-- all fields are optional
abbrev pub are_optional : Fields → Bool
are_optional no_fields = true
are_optional (one_field n s o fs) = o && are_optional fs

-- the test holds of the field with this name and the fields after it, and all fields before it are optional
abbrev pub at_field : (Shape → Fields → Bool) → List ℕ → Fields → Bool
at_field fits name no_fields = false
at_field fits name (one_field n s o fs) = if bytes_eq n name then fits s fs else (o && at_field fits name fs)

-- Texts and names are UTF-8 and bytes are bytes, as in any program.
abbrev mutual
  pub fits : Shape → Data → Bool
  fits Shape.unit Data.unit = true
  fits Shape.boolean (Data.boolean b) = true
  fits (Shape.unsigned bits) (Data.unsigned n) = fits_unsigned bits n
  fits (Shape.signed bits) (Data.signed z) = fits_signed bits z
  fits Shape.character (Data.character c) = is_scalar c
  fits Shape.text (Data.text t) = is_utf8 t
  fits Shape.bytes (Data.bytes b) = list_all is_byte b
  fits (Shape.option s) Data.none = true
  fits (Shape.option s) (Data.some d) = fits s d
  fits (Shape.newtype s) (Data.newtype d) = fits s d
  fits (Shape.sequence s) (Data.sequence ds) = each_fits s ds
  fits (Shape.tuple ss) (Data.tuple ds) = fits_tuple ss ds
  fits (Shape.mapping k s) (Data.mapping ps) = fits_pairs k s ps
  fits (Shape.struct u fs) (Data.struct ms) = fits_fields fs ms
  fits (Shape.enumeration vs) (Data.unit_variant name) = is_utf8 name && is_unit (variant_kind name vs)
  fits (Shape.enumeration vs) (Data.newtype_variant name d) = is_utf8 name && by_newtype (λ s. fits s d) (variant_kind name vs)
  fits (Shape.enumeration vs) (Data.tuple_variant name ds) = is_utf8 name && by_tuple (λ ss. fits_tuple ss ds) (variant_kind name vs)
  fits (Shape.enumeration vs) (Data.struct_variant name ms) = is_utf8 name && by_struct (λ fs. fits_fields fs ms) (variant_kind name vs)
  fits _ _ = false

  pub each_fits : Shape → Values → Bool
  each_fits s no_values = true
  each_fits s (one_value d ds) = fits s d && each_fits s ds

  -- as many elements as there are shapes
  pub fits_tuple : Shapes → Values → Bool
  fits_tuple no_shapes no_values = true
  fits_tuple (one_shape s ss) (one_value d ds) = fits s d && fits_tuple ss ds
  fits_tuple _ _ = false

  pub fits_pairs : KeyShape → Shape → Pairs → Bool
  fits_pairs k s no_pairs = true
  fits_pairs k s (one_pair a d ps) = fits_key k a && fits s d && fits_pairs k s ps

  -- fields in the shape's order; only optional fields may be missing
  pub fits_fields : Fields → Members → Bool
  fits_fields fs no_members = are_optional fs
  fits_fields fs (one_member name d ms) = is_utf8 name && at_field (λ s rest. fits s d && fits_fields rest ms) name fs
