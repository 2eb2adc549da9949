-- Permutations of pairs, and inputs with the same tree. Comparisons ignore escapes.
use Rattle.std.specs.Prelude.{◌≡◌, ℕ, Bool, true, false, ◌||◌, ◌&&◌, List, [], ◌∷◌, map}
use Rattle.qs_spec.specs.Segment.{ParsedSegment, is_same_segment}
use Rattle.qs_spec.specs.Leaf.{Leaf}
use Rattle.qs_spec.specs.Leaf.Leaf.{NoValue, Null, Text}
use Rattle.qs_spec.specs.Grammar.{Pair}
use Rattle.qs_spec.specs.Permutation.{KeepsOrder}
use Rattle.qs_spec.specs.Tree.{Tree, Items, Entries, IsTree}
use Rattle.qs_spec.specs.Tree.Tree.{leaf, sequence, mapping, uninitialized}
use Rattle.qs_spec.specs.Tree.Items.{no_items, item}
use Rattle.qs_spec.specs.Tree.Entries.{no_entries, entry}

-- the second path begins with the first
abbrev pub is_front : List ParsedSegment → List ParsedSegment → Bool
is_front [] q = true
is_front (s ∷ p) [] = false
is_front (s ∷ p) (t ∷ q) = is_same_segment s.segment t.segment && is_front p q

-- two pairs with overlapping paths: equal, or one a prefix of the other
abbrev pub overlap : Pair → Pair → Bool
overlap p q = is_front p.path q.path || is_front q.path p.path

-- a leaf, a pair, a tree in which no text counts as escaped
abbrev pub leaf_ignoring_escapes : Leaf → Leaf
leaf_ignoring_escapes NoValue = NoValue
leaf_ignoring_escapes Null = Null
leaf_ignoring_escapes (Text bytes escaped) = Text bytes false

abbrev pub segment_ignoring_escapes : ParsedSegment → ParsedSegment
segment_ignoring_escapes s = record { segment = s.segment; escaped = false }

abbrev pub pair_ignoring_escapes : Pair → Pair
pair_ignoring_escapes p = record { path = map segment_ignoring_escapes p.path; push = p.push; leaf = leaf_ignoring_escapes p.leaf }

abbrev mutual
  pub ignoring_escapes : Tree → Tree
  ignoring_escapes (leaf l) = leaf (leaf_ignoring_escapes l)
  ignoring_escapes (sequence xs) = sequence (items_ignoring_escapes xs)
  ignoring_escapes (mapping es) = mapping (entries_ignoring_escapes es)
  ignoring_escapes uninitialized = uninitialized

  pub items_ignoring_escapes : Items → Items
  items_ignoring_escapes no_items = no_items
  items_ignoring_escapes (item t xs) = item (ignoring_escapes t) (items_ignoring_escapes xs)

  pub entries_ignoring_escapes : Entries → Entries
  entries_ignoring_escapes no_entries = no_entries
  entries_ignoring_escapes (entry k escaped t es) = entry k false (ignoring_escapes t) (entries_ignoring_escapes es)

-- the same pairs, ignoring escapes, in an order that keeps overlapping paths in order
abbrev pub AreReordered : List Pair → List Pair → Type 0
AreReordered ps qs = KeepsOrder overlap (map pair_ignoring_escapes ps) (map pair_ignoring_escapes qs)

-- two inputs have trees that differ at most in which texts are escaped, or neither has a tree
pub record AreEquivalent (is_form : Bool) (depth : ℕ) (a b : List ℕ) : Type 0 where
  pub there : (t : Tree) → IsTree is_form depth a t → (u : Tree) × IsTree is_form depth b u × (ignoring_escapes u ≡ ignoring_escapes t)
  pub back : (u : Tree) → IsTree is_form depth b u → (t : Tree) × IsTree is_form depth a t × (ignoring_escapes t ≡ ignoring_escapes u)
