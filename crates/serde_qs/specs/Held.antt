-- What is read from the items of a tuple, and from what a variant of an enum holds.
use Rattle.std.specs.Prelude.{ℕ, Bool, cond, List, Option, Some, None, option_and_then}
use Rattle.qs_data.specs.read.Held.{is_unit_kind, reads_kind, reads_tuple, reads_variant, unit_variant_data}
use Rattle.qs_spec.specs.Data as d
use Rattle.qs_spec.specs.Data.{Data, Values, values_of}
use Rattle.qs_spec.specs.Shape.{Shape, VariantKind, Variants, shapes_of}
use Rattle.qs_spec.specs.Tree.{Tree}

-- what the values mean that shapes read from the first items
abbrev pub by_shapes : {V : Type 0} → Bool → List Shape → (Values → Option V) → List (Option Tree) → Option V
by_shapes reject_duplicates shapes meaning xs = option_and_then (λ ds. meaning (values_of ds)) (reads_tuple reject_duplicates (shapes_of shapes) xs)

-- The data of the variant of a name, and of a variant of a kind and a name: from the value that it holds, or the data of a unit variant if
-- it holds none.

abbrev pub variant_held : Bool → Variants → List ℕ → Option Tree → Option Data
variant_held reject_duplicates vs name None = unit_variant_data vs name
variant_held reject_duplicates vs name (Some t) = reads_variant reject_duplicates vs name t

abbrev pub kind_held : Bool → VariantKind → List ℕ → Option Tree → Option Data
kind_held reject_duplicates k name None = cond (is_unit_kind k) (Some (d.unit_variant name)) None
kind_held reject_duplicates k name (Some t) = reads_kind reject_duplicates k name t
