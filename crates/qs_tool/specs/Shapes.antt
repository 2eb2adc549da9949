-- What each command reads.
use Rattle.std.specs.Prelude.{Bool, true, false, [], ◌∷◌, codes}
use Rattle.qs_spec.specs.Shape.{Shape, UnknownKeys, fields_of}
use Rattle.qs_tool.specs.declared.arguments.Command.{Command}
use Rattle.qs_tool.specs.declared.arguments.Command.TheVariants.{Flat, Params, Any}

-- what becomes of keys that no field has: they are rejected where all structs are strict
abbrev pub unknown_keys : Bool → UnknownKeys
unknown_keys true = UnknownKeys.rejected
unknown_keys false = UnknownKeys.ignored

-- five fields, none of them nested
abbrev pub flat_shape : Bool → Shape
flat_shape strict = Shape.struct (unknown_keys strict) (fields_of
    ((codes "name", Shape.text, false)
    ∷ (codes "age", Shape.unsigned 8, false)
    ∷ (codes "occupation", Shape.text, false)
    ∷ (codes "active", Shape.boolean, true)
    ∷ (codes "note", Shape.option Shape.text, false)
    ∷ []))

-- where someone lives
abbrev pub address_shape : Bool → Shape
address_shape strict = Shape.struct (unknown_keys strict) (fields_of
    ((codes "city", Shape.text, false)
    ∷ (codes "street", Shape.text, false)
    ∷ (codes "postcode", Shape.text, false)
    ∷ []))

-- five fields, of which the address and the list are nested
abbrev pub params_shape : Bool → Shape
params_shape strict = Shape.struct (unknown_keys strict) (fields_of
    ((codes "id", Shape.unsigned 8, false)
    ∷ (codes "name", Shape.text, false)
    ∷ (codes "phone", Shape.unsigned 32, false)
    ∷ (codes "address", address_shape strict, false)
    ∷ (codes "user_ids", Shape.sequence (Shape.unsigned 8), false)
    ∷ []))

-- what a command reads; `any` reads whatever is there
abbrev pub shape_for : Command → Bool → Shape
shape_for Flat strict = flat_shape strict
shape_for Params strict = params_shape strict
shape_for Any strict = Shape.any
