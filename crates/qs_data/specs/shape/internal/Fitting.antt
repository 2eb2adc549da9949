-- How a step of the walk over data and their shape is part of the whole.
use Rattle.std.specs.Prelude.{◌≡◌, ℕ, Bool, false, List, Option, Some, None}
use Rattle.std.specs.Str.{bytes_eq}
use Rattle.qs_spec.specs.Data.{Data, Members, no_members, one_member}
use Rattle.qs_spec.specs.Shape.{VariantKind, Field, Fields, one_field}
use Rattle.qs_spec.specs.Fits.{fits, fits_tuple, fits_fields, is_unit, by_newtype, by_tuple, by_struct}

-- the data is a variant of the kind, if there is one, and what it holds fits
abbrev pub fits_variant : Option VariantKind → Data → Bool
fits_variant kind (Data.unit_variant name) = is_unit kind
fits_variant kind (Data.newtype_variant name d) = by_newtype (λ s. fits s d) kind
fits_variant kind (Data.tuple_variant name ds) = by_tuple (λ ss. fits_tuple ss ds) kind
fits_variant kind (Data.struct_variant name ms) = by_struct (λ fs. fits_fields fs ms) kind
fits_variant kind _ = false

-- the first member has this name
abbrev pub is_next : List ℕ → Members → Bool
is_next name no_members = false
is_next name (one_member n d ms) = bytes_eq name n

-- whether what is left fits, if anything may be left
abbrev pub if_left : Option ℕ → (ℕ → Bool) → Bool
if_left None fits = false
if_left (Some next) fits = fits next

-- The members fit the field and any others if the members that are left fit those others.
abbrev pub FitsField : Field → Members → Option ℕ → (ℕ → Members) → Type 0
FitsField f ms next left = (fs : Fields) → fits_fields (one_field f.0 f.1 f.2 fs) ms ≡ if_left next (λ at. fits_fields fs (left at))
