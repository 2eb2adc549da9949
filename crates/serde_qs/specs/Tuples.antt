-- Tuples by their items.
use Rattle.std.specs.Prelude.{◌≡◌, Bool, true, List, Option, Some, None, map, reverse}
use Rattle.qs_spec.specs.Data as v
use Rattle.qs_spec.specs.Data.{Values, no_values, one_value, values_of}
use Rattle.qs_spec.specs.Fits.{fits_tuple}
use Rattle.qs_spec.specs.Plain.{are_plain}
use Rattle.qs_spec.specs.Same.{SameValues}
use Rattle.qs_spec.specs.Shape.{Shape, shapes_of}
use Rattle.qs_data.specs.data.Views.{data_of}
use Rattle.qs_data.specs.declared.data.data.Data.{Data}
use Rattle.serde_qs.specs.Meaning.{both}

-- values in reverse order
abbrev pub values_back : List Data → Values
values_back xs = values_of (map data_of (reverse xs))

-- no item, if no value is left
abbrev pub no_item_in : Values → Option (Unit {0})
no_item_in no_values = Some tt
no_item_in _ = None

-- the first value means a value of the first item
abbrev pub item_in : {A B : Type 0} → (v.Data → Option A) → (Values → Option B) → Values → Option (A × B)
item_in m rest no_values = None
item_in m rest (one_value d ds) = both (m d) (rest ds)

-- the items of a tuple, and of a variant
abbrev pub tuple_in : {A : Type 0} → (Values → Option A) → v.Data → Option A
tuple_in m (v.tuple ds) = m ds
tuple_in m _ = None

abbrev pub tuple_variant_in : {A : Type 0} → (Values → Option A) → v.Data → Option A
tuple_variant_in m (v.tuple_variant n ds) = m ds
tuple_variant_in m _ = None

-- if the data of items is plain, it fits their shapes
abbrev pub ItemsFit : {A : Type 0} → List Shape → (A → List v.Data) → Type 0
ItemsFit {A} shape written = (is_form : Bool) (x : A) → are_plain is_form (values_of (written x)) ≡ true → fits_tuple (shapes_of shape) (values_of (written x)) ≡ true

-- and from values that are the same as these, the items come back
abbrev pub ItemsComeBack : {A V : Type 0} → (A → List v.Data) → (Values → Option V) → (A → V) → Type 0
ItemsComeBack {A} written meaning value = (is_form : Bool) (x : A) (es : Values) → are_plain is_form (values_of (written x)) ≡ true → SameValues (values_of (written x)) es → meaning es ≡ Some (value x)
