-- A shape that nests n levels deep is parsed by functions in this order, of which the last begins one level below.
use Rattle.std.proofs.Common.{◌≡◌, ◌+◌, ◌*◌, ◌-◌, map, length}
use Rattle.qs_data.specs.shape.Views.{field_of, shape_of, variant_of}
use Rattle.qs_c.specs.Found.{before}
use Rattle.qs_c.specs.Notation as n
use Rattle.qs_c.proofs.notation.+shape.Given as goal

abbrev pub decreases-shapes::shape : goal.decreases-shapes::shape
decreases-shapes::shape l = 8 * l.levels

abbrev pub decreases-shapes::base : goal.decreases-shapes::base
decreases-shapes::base l = 8 * l.levels + 7

abbrev pub decreases-shapes::list : goal.decreases-shapes::list
decreases-shapes::list l = 8 * l.levels + 1

abbrev pub decreases-shapes::named : goal.decreases-shapes::named
decreases-shapes::named l = 8 * l.levels + 6

abbrev pub decreases-shapes::newtype : goal.decreases-shapes::newtype
decreases-shapes::newtype l = 8 * l.levels + 1

abbrev pub decreases-shapes::map : goal.decreases-shapes::map
decreases-shapes::map l = 8 * l.levels + 1

abbrev pub decreases-shapes::fields : goal.decreases-shapes::fields
decreases-shapes::fields l = 8 * l.levels + 2

abbrev pub decreases-shapes::field : goal.decreases-shapes::field
decreases-shapes::field l = 8 * l.levels + 1

abbrev pub decreases-shapes::items : goal.decreases-shapes::items
decreases-shapes::items l = 8 * l.levels + 1

abbrev pub decreases-variants::variants : goal.decreases-variants::variants
decreases-variants::variants l = 8 * l.levels + 5

abbrev pub decreases-variants::variant : goal.decreases-variants::variant
decreases-variants::variant l = 8 * l.levels + 4

abbrev pub decreases-variants::kind : goal.decreases-variants::kind
decreases-variants::kind l = 8 * l.levels + 3

abbrev pub decreases-variants::held : goal.decreases-variants::held
decreases-variants::held l = 8 * l.levels + 2

-- What is left of a list is found after what was found of it.
abbrev pub invariant-shapes::fields-loop-at : goal.invariant-shapes::fields-loop-at
invariant-shapes::fields-loop-at l =
    let all = n.listed (n.field (n.shape l.levels)) 125 n.comma_or_brace in
    let start = l.initial.cursor.rest.now in
    all (length start) start ≡ before (map field_of l.fields.items) (all (length start - l.at) l.cursor.rest.now)

abbrev pub invariant-shapes::items-loop-at : goal.invariant-shapes::items-loop-at
invariant-shapes::items-loop-at l =
    let all = n.listed (n.shape l.levels) 41 n.comma_or_parenthesis in
    let start = l.initial.cursor.rest.now in
    before (map shape_of l.initial.items.items) (all (length start) start) ≡ before (map shape_of l.items.items) (all (length start - l.at) l.cursor.rest.now)

abbrev pub invariant-variants::variants-loop-at : goal.invariant-variants::variants-loop-at
invariant-variants::variants-loop-at l =
    let all = n.listed (n.variant (n.shape l.levels)) 41 n.comma_or_parenthesis in
    let start = l.initial.cursor.rest.now in
    all (length start) start ≡ before (map variant_of l.variants.items) (all (length start - l.at) l.cursor.rest.now)
