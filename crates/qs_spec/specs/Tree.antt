-- The tree of an input: each node by the history of its own path.
use Rattle.std.specs.Prelude.{◌≡◌, ℕ, zero, suc, max, Bool, true, false, List, [], ◌∷◌, ◌++◌, length, IsTrue, if◌then◌else◌}
use Rattle.std.specs.List.{list_any}
use Rattle.std.specs.Ordering.{match_ordering}
use Rattle.qs_spec.specs.Token.{tokens}
use Rattle.qs_spec.specs.Segment.{Segment, ParsedSegment, compare_segments, is_same_segment}
use Rattle.qs_spec.specs.Segment.Segment.{Str}
use Rattle.qs_spec.specs.Leaf.{Leaf}
use Rattle.qs_spec.specs.Leaf.Leaf.{NoValue}
use Rattle.qs_spec.specs.Grammar.{Pair, ArePairs}
use Rattle.qs_spec.specs.History.{Event, events, is_below, under, permitted}
use Rattle.qs_spec.specs.History.Event.{assign, push, below}

-- A node. An entry of a map keeps whether its key is escaped; comparisons of segments don't see it.
mutual
  pub data Tree : Type 0 where
    leaf : Leaf → Tree
    sequence : Items → Tree
    mapping : Entries → Tree
    uninitialized : Tree

  pub data Items : Type 0 where
    no_items : Items
    item : Tree → Items → Items

  pub data Entries : Type 0 where
    no_entries : Entries
    entry : (key : Segment) → (escaped : Bool) → Tree → Entries → Entries

-- the leaf of an event, if it has one
abbrev pub leaf_in : Event → List Leaf
leaf_in (assign l) = l ∷ []
leaf_in (push l) = l ∷ []
leaf_in below = []

-- the leaves of a history, in order
abbrev pub leaves_in : List Event → List Leaf
leaves_in [] = []
leaves_in (e ∷ h) = leaf_in e ++ leaves_in h

-- leaves as the items of a sequence
abbrev pub leaf_items : List Leaf → Items
leaf_items [] = no_items
leaf_items (l ∷ ls) = item (leaf l) (leaf_items ls)

-- a node without below: nothing, one assigned leaf, or a sequence
abbrev pub node_of_leaves : List Event → Tree
node_of_leaves [] = uninitialized
node_of_leaves (assign l ∷ []) = leaf l
node_of_leaves h = sequence (leaf_items (leaves_in h))

-- An assigned leaf at a map is the value of the empty key, which no path of an input holds. A push at a map is never permitted.
abbrev pub empty_segment : ParsedSegment
empty_segment = record { segment = Str []; escaped = false }

-- the path; if it is empty and its leaf isn't pushed, the path of the empty segment
abbrev pub filled_path : List ParsedSegment → (pushed : Bool) → List ParsedSegment
filled_path (s ∷ path) pushed = s ∷ path
filled_path [] true = []
filled_path [] false = empty_segment ∷ []

-- the pairs with such paths
abbrev pub filled : List Pair → List Pair
filled [] = []
filled (p ∷ ps) = record p { path = filled_path p.path p.push } ∷ filled ps

-- ascending segments with this one inserted, unless they already have it
abbrev pub put : Segment → List Segment → List Segment
put k [] = k ∷ []
put k (x ∷ xs) = match_ordering (compare_segments k x) (k ∷ x ∷ xs) (x ∷ xs) (x ∷ put k xs)

-- the same for the first segment of a path, if it has one
abbrev pub put_head : List ParsedSegment → List Segment → List Segment
put_head [] ks = ks
put_head (s ∷ path) ks = put s.segment ks

-- the segments that paths begin with, each once, in order
abbrev pub heads : List Pair → List Segment
heads [] = []
heads (p ∷ ps) = put_head p.path (heads ps)

-- whether a segment is escaped in the first pair whose path begins with it
abbrev pub head_escaped : Segment → List Pair → Bool
head_escaped k [] = false
head_escaped k (p ∷ ps) = elim p.path [
  | [] ↦ head_escaped k ps
  | (s ∷ path) ↦ if is_same_segment k s.segment then s.escaped else head_escaped k ps
]

-- the entries of these keys, each with its node and whether it is escaped
abbrev pub entries_of : (Segment → Bool) → (Segment → Tree) → List Segment → Entries
entries_of escaped node [] = no_entries
entries_of escaped node (k ∷ ks) = entry k (escaped k) (node k) (entries_of escaped node ks)

-- the node at which the paths of these pairs begin; the paths have at most this many segments
abbrev pub node_within : ℕ → List Pair → Tree
node_within zero ps = node_of_leaves (events ps [])
node_within (suc n) ps =
    if list_any is_below (events ps [])
    then mapping (entries_of (λ k. head_escaped k (filled ps)) (λ k. node_within n (under k (filled ps))) (heads (filled ps)))
    else node_of_leaves (events ps [])

-- the length of the longest path
abbrev pub longest : List Pair → ℕ
longest [] = 0
longest (p ∷ ps) = max (length p.path) (longest ps)

-- the node of some pairs: if one of them goes below, a map with the node of the pairs under each segment
abbrev pub node : List Pair → Tree
node ps = node_within (longest ps) ps

-- the tokens are these pairs, and each path's history is permitted
pub record Splits (is_form : Bool) (depth : ℕ) (bytes : List ℕ) (pairs : List Pair) : Type 0 where
  pub grammar : ArePairs depth (tokens is_form bytes) pairs
  pub histories : (path : List Segment) → IsTrue (permitted (events pairs path))

-- the tree of an input
abbrev pub IsTree : Bool → ℕ → List ℕ → Tree → Type 0
IsTree is_form depth [] tree = tree ≡ leaf NoValue
IsTree is_form depth (b ∷ bytes) tree = (pairs : List Pair) × Splits is_form depth (b ∷ bytes) pairs × (tree ≡ node pairs)

-- the input has no tree, and is rejected
abbrev pub HasNoTree : Bool → ℕ → List ℕ → Type 0
HasNoTree is_form depth bytes = (tree : Tree) → IsTree is_form depth bytes tree → ⊥
