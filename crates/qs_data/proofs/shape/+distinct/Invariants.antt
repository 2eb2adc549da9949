use Rattle.qs_data.proofs.Common.{◌≡◌, drop, are_distinct, are_distinct_fields, are_distinct_variants, shapes_in, fields_in, variants_in}
use Rattle.qs_data.proofs.shape.+distinct.Given as goal

abbrev pub invariant-distinct::are_distinct-loop-shape : goal.invariant-distinct::are_distinct-loop-shape
invariant-distinct::are_distinct-loop-shape l = are_distinct (shapes_in l.shapes.items) ≡ are_distinct (shapes_in (drop l.shape-index l.shape-items))

abbrev pub invariant-distinct::are_distinct_fields-loop-field : goal.invariant-distinct::are_distinct_fields-loop-field
invariant-distinct::are_distinct_fields-loop-field l = are_distinct_fields (fields_in l.fields.items) ≡ are_distinct_fields (fields_in (drop l.field-index l.field-items))

abbrev pub invariant-distinct::are_distinct_variants-loop-variant : goal.invariant-distinct::are_distinct_variants-loop-variant
invariant-distinct::are_distinct_variants-loop-variant l = are_distinct_variants (variants_in l.variants.items) ≡ are_distinct_variants (variants_in (drop l.variant-index l.variant-items))
