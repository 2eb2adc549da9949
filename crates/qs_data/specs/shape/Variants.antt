-- The variant of a name.
use Rattle.std.specs.Prelude.{ℕ, cond, List, Option, Some, None}
use Rattle.std.specs.Str.{bytes_eq}
use Rattle.qs_spec.specs.Shape.{Variant, Variants, no_variants, one_variant}

-- the first one of this name
abbrev pub variant_named : List ℕ → Variants → Option Variant
variant_named name no_variants = None
variant_named name (one_variant n k vs) = cond (bytes_eq n name) (Some (n, k)) (variant_named name vs)
