-- Histories: what the pairs of an input do, in turn, to the node at one path.
use Rattle.std.specs.Prelude.{Bool, true, false, ◌||◌, ◌&&◌, not, List, [], ◌∷◌, map, if◌then◌else◌}
use Rattle.std.specs.List.{list_any}
use Rattle.qs_spec.specs.Segment.{Segment, ParsedSegment, is_same_segment}
use Rattle.qs_spec.specs.Leaf.{Leaf}
use Rattle.qs_spec.specs.Grammar.{Pair}

-- an assigned leaf, a pushed leaf, or a pair that goes on below
pub data Event : Type 0 where
  assign : Leaf → Event
  push : Leaf → Event
  below : Event

-- what a pair does to the node that its path begins at
abbrev pub event_of : List ParsedSegment → Bool → Leaf → Event
event_of (s ∷ path) p leaf = below
event_of [] true leaf = push leaf
event_of [] false leaf = assign leaf

-- what this pair does there
abbrev pub event : Pair → Event
event p = event_of p.path p.push p.leaf

-- the pairs whose path begins with a segment, with that segment removed
abbrev pub under : Segment → List Pair → List Pair
under k [] = []
under k (p ∷ ps) = elim p.path [
  | [] ↦ under k ps
  | (s ∷ path) ↦ if is_same_segment k s.segment then record p { path = path } ∷ under k ps else under k ps
]

-- the pairs whose path begins with a path, with that path removed
abbrev pub at : List Segment → List Pair → List Pair
at [] ps = ps
at (k ∷ path) ps = at path (under k ps)

-- the history of a path
abbrev pub events : List Pair → List Segment → List Event
events ps path = map event (at path ps)

-- the kind of an event
abbrev pub is_below : Event → Bool
is_below below = true
is_below _ = false

abbrev pub is_push : Event → Bool
is_push (push leaf) = true
is_push _ = false

-- how a history begins: with below, or with an assigned leaf and then a push
abbrev pub begins_below : List Event → Bool
begins_below (below ∷ h) = true
begins_below _ = false

abbrev pub begins_assign_push : List Event → Bool
begins_assign_push (assign leaf ∷ push other ∷ h) = true
begins_assign_push _ = false

-- no event is below, and no push follows a single assigned leaf; or the first event is below, and nothing is pushed
abbrev pub permitted : List Event → Bool
permitted h = (not (list_any is_below h) && not (begins_assign_push h)) || (begins_below h && not (list_any is_push h))
