-- How one pair changes a tree in place, as in the parser: by cases on the pair and the node at its path.
use Rattle.std.specs.Prelude.{Bool, true, false, List, [], ◌∷◌, Option, Some, None, option_map, option_and_then}
use Rattle.std.specs.declared.cmp.Ordering.{Ordering}
use Rattle.std.specs.declared.cmp.Ordering.TheVariants.{Less, Equal, Greater}
use Rattle.qs_spec.specs.Segment.{Segment, ParsedSegment, compare_segments}
use Rattle.qs_spec.specs.Leaf.{Leaf}
use Rattle.qs_spec.specs.Grammar.{Pair}
use Rattle.qs_spec.specs.Tree.{empty_segment, Tree, Items, Entries}
use Rattle.qs_spec.specs.Tree.Tree.{leaf, sequence, mapping, uninitialized}
use Rattle.qs_spec.specs.Tree.Items.{item, no_items}
use Rattle.qs_spec.specs.Tree.Entries.{entry, no_entries}

-- the entries, of which f changes the one at a segment; a missing one is uninitialized before
abbrev pub update_by : Ordering → ParsedSegment → (Tree → Option Tree) → Segment → Bool → Tree → Entries → Option Entries → Option Entries
update_by Less s f k m t es more = option_map (λ u. entry s.segment s.escaped u (entry k m t es)) (f uninitialized)
update_by Equal s f k m t es more = option_map (λ u. entry k m u es) (f t)
update_by Greater s f k m t es more = option_map (entry k m t) more

abbrev pub update : ParsedSegment → (Tree → Option Tree) → Entries → Option Entries
update s f no_entries = option_map (λ u. entry s.segment s.escaped u no_entries) (f uninitialized)
update s f (entry k m t es) = update_by (compare_segments s.segment k) s f k m t es (update s f es)

-- the items and one more
abbrev pub push_item : Items → Tree → Items
push_item no_items t = item t no_items
push_item (item x xs) t = item x (push_item xs t)

-- at a node that isn't a map
abbrev pub add_to_leaves : Bool → Leaf → Tree → Option Tree
add_to_leaves false l uninitialized = Some (leaf l)
add_to_leaves true l uninitialized = Some (sequence (item (leaf l) no_items))
add_to_leaves false l (leaf o) = Some (sequence (item (leaf o) (item (leaf l) no_items)))
add_to_leaves true l (leaf o) = None
add_to_leaves b l (sequence xs) = Some (sequence (push_item xs (leaf l)))
add_to_leaves b l (mapping es) = None

-- at the pair's own path; an assigned leaf at a map is put under the empty key
abbrev pub add_here : Bool → Leaf → Tree → Option Tree
add_here false l (mapping es) = option_map mapping (update empty_segment (add_to_leaves false l) es)
add_here b l (leaf o) = add_to_leaves b l (leaf o)
add_here b l (sequence xs) = add_to_leaves b l (sequence xs)
add_here b l uninitialized = add_to_leaves b l uninitialized
add_here true l (mapping es) = None

-- at a node before the last one of the path
abbrev pub add_below : ParsedSegment → (Tree → Option Tree) → Tree → Option Tree
add_below s f uninitialized = option_map (λ u. mapping (entry s.segment s.escaped u no_entries)) (f uninitialized)
add_below s f (leaf o) = None
add_below s f (sequence xs) = None
add_below s f (mapping es) = option_map mapping (update s f es)

-- one pair
abbrev pub add : List ParsedSegment → Bool → Leaf → Tree → Option Tree
add [] b l t = add_here b l t
add (s ∷ path) b l t = add_below s (add path b l) t

-- the pairs one after another
abbrev pub add_all : List Pair → Tree → Option Tree
add_all [] t = Some t
add_all (p ∷ ps) t = option_and_then (add_all ps) (add p.path p.push p.leaf t)
