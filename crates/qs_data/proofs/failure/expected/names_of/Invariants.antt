use Rattle.std.proofs.Common.{◌≡◌, ◌++◌, drop, map, string_bytes}
use Rattle.qs_data.specs.shape.Views.{variants_in}
use Rattle.qs_data.specs.failure.Expected.{variant_names}
use Rattle.qs_data.proofs.failure.expected.names_of.Given as goal

-- the names so far, and those of the variants that are left
abbrev pub invariant-loop-variant : goal.invariant-loop-variant
invariant-loop-variant l = map string_bytes l.names.items ++ variant_names (variants_in (drop l.variant-index l.variants)) ≡ variant_names (variants_in l.variants)
