use Rattle.qs_data.proofs.Common.{◌≡◌, ◌≤◌, drop, length, each_fits, fits_tuple, fits_pairs, fits_fields, variant_kind, data_of, values_in, pairs_in, members_in, shape_of, key_shape_of, shapes_in, fields_in, variants_in, fits_variant}
use Rattle.qs_data.proofs.shape.fits.+fits.Given as goal

abbrev pub invariant-each_fits-loop-item : goal.invariant-each_fits-loop-item
invariant-each_fits-loop-item l = each_fits (shape_of l.part) (values_in l.items.items) ≡ each_fits (shape_of l.part) (values_in (drop l.item-index l.item-items))

abbrev pub invariant-fits_items-loop-i : goal.invariant-fits_items-loop-i
invariant-fits_items-loop-i l =
    (fits_tuple (shapes_in l.parts.items) (values_in l.items.items) ≡ fits_tuple (shapes_in (drop l.i l.parts.items)) (values_in (drop l.i l.items.items)))
    × (l.i ≤ length l.items.items)

abbrev pub invariant-fits_pairs-loop-pair : goal.invariant-fits_pairs-loop-pair
invariant-fits_pairs-loop-pair l =
    fits_pairs (key_shape_of l.key) (shape_of l.part) (pairs_in l.pairs.items) ≡ fits_pairs (key_shape_of l.key) (shape_of l.part) (pairs_in (drop l.pair-index l.pair-items))

abbrev pub invariant-fits_fields-loop-field : goal.invariant-fits_fields-loop-field
invariant-fits_fields-loop-field l =
    (fits_fields (fields_in l.fields.items) (members_in l.members.items) ≡ fits_fields (fields_in (drop l.field-index l.field-items)) (members_in (drop l.at l.members.items)))
    × (l.at ≤ length l.members.items)

abbrev pub invariant-fits_named-loop-variant : goal.invariant-fits_named-loop-variant
invariant-fits_named-loop-variant l =
    fits_variant (variant_kind l.name (variants_in l.variants.items)) (data_of l.datum) ≡ fits_variant (variant_kind l.name (variants_in (drop l.variant-index l.variant-items))) (data_of l.datum)
