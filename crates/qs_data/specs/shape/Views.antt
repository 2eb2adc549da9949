-- The shapes of the definitions that shapes of a program are.
use Rattle.std.specs.Prelude.{List, map, string_bytes}
use Rattle.qs_spec.specs.Shape as s
use Rattle.qs_data.specs.declared.shape.shape.Shape.{Shape, Shape-F, fold-Shape}
use Rattle.qs_data.specs.declared.shape.shape.Field.{Field, Field-F, fold-Field}
use Rattle.qs_data.specs.declared.shape.shape.Variant.{Variant, Variant-F, fold-Variant}
use Rattle.qs_data.specs.declared.shape.shape.VariantKind.{VariantKind, VariantKind-F, fold-VariantKind}
use Rattle.qs_data.specs.declared.shape.shape.KeyShape.{KeyShape}
use Rattle.qs_data.specs.declared.shape.shape.KeyShape.TheVariants as k

-- the shape of a key
abbrev pub key_shape_of : KeyShape → s.KeyShape
key_shape_of k.Bool = s.KeyShape.boolean
key_shape_of k.U8 = s.KeyShape.unsigned 8
key_shape_of k.U16 = s.KeyShape.unsigned 16
key_shape_of k.U32 = s.KeyShape.unsigned 32
key_shape_of k.U64 = s.KeyShape.unsigned 64
key_shape_of k.I8 = s.KeyShape.signed 8
key_shape_of k.I16 = s.KeyShape.signed 16
key_shape_of k.I32 = s.KeyShape.signed 32
key_shape_of k.I64 = s.KeyShape.signed 64
key_shape_of k.Char = s.KeyShape.character
key_shape_of k.Text = s.KeyShape.text
key_shape_of (k.Variants names) = s.KeyShape.variants (map string_bytes names.items)

-- one level of a shape, of a field, of a variant and of what it holds, with what is inside already seen as shapes of the definitions
abbrev pub shape_layer : Shape-F s.Shape s.VariantKind s.Field s.Variant → s.Shape
shape_layer Shape-F.Shape::Unit = s.Shape.unit
shape_layer Shape-F.Bool = s.Shape.boolean
shape_layer Shape-F.U8 = s.Shape.unsigned 8
shape_layer Shape-F.U16 = s.Shape.unsigned 16
shape_layer Shape-F.U32 = s.Shape.unsigned 32
shape_layer Shape-F.U64 = s.Shape.unsigned 64
shape_layer Shape-F.I8 = s.Shape.signed 8
shape_layer Shape-F.I16 = s.Shape.signed 16
shape_layer Shape-F.I32 = s.Shape.signed 32
shape_layer Shape-F.I64 = s.Shape.signed 64
shape_layer Shape-F.Char = s.Shape.character
shape_layer Shape-F.Text = s.Shape.text
shape_layer Shape-F.Bytes = s.Shape.bytes
shape_layer (Shape-F.Option x) = s.Shape.option x.value
shape_layer (Shape-F.Seq x) = s.Shape.sequence x.value
shape_layer (Shape-F.Shape::Tuple xs) = s.Shape.tuple (s.shapes_of xs.items)
shape_layer (Shape-F.Map key x) = s.Shape.mapping (key_shape_of key) x.value
shape_layer (Shape-F.Shape::Struct fs) = s.Shape.struct s.UnknownKeys.ignored (s.fields_of fs.items)
shape_layer (Shape-F.Shape::StrictStruct fs) = s.Shape.struct s.UnknownKeys.rejected (s.fields_of fs.items)
shape_layer (Shape-F.Shape::Newtype x) = s.Shape.newtype x.value
shape_layer (Shape-F.Enum vs) = s.Shape.enumeration (s.variants_of vs.items)
shape_layer Shape-F.Any = s.Shape.any
shape_layer Shape-F.Ignored = s.Shape.ignored

abbrev pub field_layer : Field-F s.Shape s.VariantKind s.Field s.Variant → s.Field
field_layer f = (string_bytes f.name, f.shape, f.optional)

abbrev pub variant_layer : Variant-F s.Shape s.VariantKind s.Field s.Variant → s.Variant
variant_layer v = (string_bytes v.name, v.kind)

abbrev pub kind_layer : VariantKind-F s.Shape s.VariantKind s.Field s.Variant → s.VariantKind
kind_layer VariantKind-F.VariantKind::Unit = s.unit_kind
kind_layer (VariantKind-F.VariantKind::Newtype x) = s.newtype_kind x.value
kind_layer (VariantKind-F.VariantKind::Tuple xs) = s.tuple_kind (s.shapes_of xs.items)
kind_layer (VariantKind-F.VariantKind::Struct fs) = s.struct_kind s.UnknownKeys.ignored (s.fields_of fs.items)
kind_layer (VariantKind-F.VariantKind::StrictStruct fs) = s.struct_kind s.UnknownKeys.rejected (s.fields_of fs.items)

-- the shape, the field, the variant, and what a variant holds
abbrev pub shape_of : Shape → s.Shape
shape_of = fold-Shape s.Shape s.VariantKind s.Field s.Variant shape_layer kind_layer field_layer variant_layer

abbrev pub field_of : Field → s.Field
field_of = fold-Field s.Shape s.VariantKind s.Field s.Variant shape_layer kind_layer field_layer variant_layer

abbrev pub variant_of : Variant → s.Variant
variant_of = fold-Variant s.Shape s.VariantKind s.Field s.Variant shape_layer kind_layer field_layer variant_layer

abbrev pub kind_of : VariantKind → s.VariantKind
kind_of = fold-VariantKind s.Shape s.VariantKind s.Field s.Variant shape_layer kind_layer field_layer variant_layer

-- lists of them
abbrev pub shapes_in : List Shape → s.Shapes
shapes_in ss = s.shapes_of (map shape_of ss)

abbrev pub fields_in : List Field → s.Fields
fields_in fs = s.fields_of (map field_of fs)

abbrev pub variants_in : List Variant → s.Variants
variants_in vs = s.variants_of (map variant_of vs)
