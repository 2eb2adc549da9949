-- An order of the pairs that keeps those that overlap leaves each history, and so the tree.
use Rattle.std.proofs.Common.{◌≡◌, ℕ, zero, suc, max, Bool, true, false, cond, ◌||◌, ◌&&◌, List, [], ◌∷◌, ◌++◌, map, refl, sym, ap, ap₂, ◌∙◌, subst, IsFalse, arith}
use Rattle.std.specs.List.{AllByRecursion, list_any}
use Rattle.qs_spec.specs.Segment.{Segment, ParsedSegment}
use Rattle.qs_spec.specs.Leaf.{Leaf}
use Rattle.qs_spec.specs.Grammar.{Pair}
use Rattle.qs_spec.specs.History.{Event, event, event_of, under, events, is_below, permitted}
use Rattle.qs_spec.specs.Tree.{Tree, Entries, node_of_leaves, filled, filled_path, put_head, heads, entries_of, node_within, longest, node}
use Rattle.qs_spec.specs.Segment.{is_same_segment}
use Rattle.qs_spec.specs.Permutation.{IsReordering}
use Rattle.qs_spec.specs.Order.{is_front, overlap, ignoring_escapes, entries_ignoring_escapes}
use Rattle.qs_spec.proofs.Order.{same_as_both, put_twice}

-- neighbours that don't overlap change places, any number of times
pub data Swaps : List Pair → List Pair → Type 0 where
  same : (ps : List Pair) → Swaps ps ps
  keep : {ps qs : List Pair} (p : Pair) → Swaps ps qs → Swaps (p ∷ ps) (p ∷ qs)
  swap : (p q : Pair) (ps : List Pair) → overlap p q ≡ false → Swaps (p ∷ q ∷ ps) (q ∷ p ∷ ps)
  both : {ps qs rs : List Pair} → Swaps ps qs → Swaps qs rs → Swaps ps rs

to_place : (p : Pair) (front back : List Pair) → AllByRecursion (λ q. IsFalse (overlap p q)) front → Swaps (p ∷ (front ++ back)) (front ++ p ∷ back)
to_place p [] back h = same (p ∷ back)
to_place p (q ∷ front) back h = both (swap p q (front ++ back) h.0) (keep q (to_place p front back h.1))

pub swaps_of : (ps qs : List Pair) → IsReordering overlap ps qs → Swaps ps qs
swaps_of [] qs h = subst (λ l. Swaps [] l) (sym h) (same [])
swaps_of (p ∷ ps) qs h = subst (λ l. Swaps (p ∷ ps) l) (sym h.2) (both (keep p (swaps_of ps (h.0 ++ h.1) h.4)) (to_place p h.0 h.1 h.3))

-- a part of each pair's path decides whether it stays, and with which path
under_keep : (k : Segment) (path : List ParsedSegment) (p : Pair) (ps qs : List Pair) → Swaps (under k ps) (under k qs) → Swaps (under k (record p { path = path } ∷ ps)) (under k (record p { path = path } ∷ qs))
under_keep k [] p ps qs w = w
under_keep k (s ∷ path) p ps qs w = by (is_same_segment k s.segment)
  where
    by : (t : Bool) → Swaps (cond t (record p { path = path } ∷ under k ps) (under k ps)) (cond t (record p { path = path } ∷ under k qs) (under k qs))
    by true = keep (record p { path = path }) w
    by false = w

-- paths of two that don't overlap
abbrev Apart : List ParsedSegment → List ParsedSegment → Type 0
Apart a b = (is_front a b || is_front b a) ≡ false

pub apart_rest : (s t : ParsedSegment) (a b : List ParsedSegment) → is_same_segment s.segment t.segment ≡ true → is_same_segment t.segment s.segment ≡ true → Apart (s ∷ a) (t ∷ b) → Apart a b
apart_rest s t a b e f h = sym (ap₂ (λ x y. (x && is_front a b) || (y && is_front b a)) e f) ∙ h

under_swap : (k : Segment) (a b : List ParsedSegment) (p q : Pair) (rest : List Pair) → Apart a b
    → Swaps (under k (record p { path = a } ∷ record q { path = b } ∷ rest)) (under k (record q { path = b } ∷ record p { path = a } ∷ rest))
under_swap k [] b p q rest h = cc
under_swap k (s ∷ a) [] p q rest h = cc
under_swap k (s ∷ a) (t ∷ b) p q rest h = by (is_same_segment k s.segment) (is_same_segment k t.segment) refl refl
  where
    by : (x y : Bool) → is_same_segment k s.segment ≡ x → is_same_segment k t.segment ≡ y
        → Swaps (cond x (record p { path = a } ∷ cond y (record q { path = b } ∷ under k rest) (under k rest)) (cond y (record q { path = b } ∷ under k rest) (under k rest))) (cond y (record q { path = b } ∷ cond x (record p { path = a } ∷ under k rest) (under k rest)) (cond x (record p { path = a } ∷ under k rest) (under k rest)))
    by true true e f = swap (record p { path = a }) (record q { path = b }) (under k rest) (apart_rest s t a b (same_as_both k s.segment t.segment e f) (same_as_both k t.segment s.segment f e) h)
    by true false e f = same _
    by false true e f = same _
    by false false e f = same _

pub swaps_under : (k : Segment) {ps qs : List Pair} → Swaps ps qs → Swaps (under k ps) (under k qs)
swaps_under k (same ps) = same (under k ps)
swaps_under k (keep {ps} {qs} p w) = under_keep k p.path p ps qs (swaps_under k w)
swaps_under k (swap p q ps h) = under_swap k p.path q.path p q ps h
swaps_under k (both w v) = both (swaps_under k w) (swaps_under k v)

event_swap : (a b : List ParsedSegment) (p q : Bool) (l m : Leaf) (h : List Event) → Apart a b → event_of a p l ∷ event_of b q m ∷ h ≡ event_of b q m ∷ event_of a p l ∷ h
event_swap [] b p q l m h e = cc
event_swap (s ∷ a) [] p q l m h e = cc
event_swap (s ∷ a) (t ∷ b) p q l m h e = refl

history_swaps : {ps qs : List Pair} → Swaps ps qs → map event ps ≡ map event qs
history_swaps (same ps) = refl
history_swaps (keep p w) = ap (λ h. event p ∷ h) (history_swaps w)
history_swaps (swap p q ps h) = event_swap p.path q.path p.push q.push p.leaf q.leaf (map event ps) h
history_swaps (both w v) = history_swaps w ∙ history_swaps v

-- each path has the same history
pub events_swaps : (path : List Segment) {ps qs : List Pair} → Swaps ps qs → events ps path ≡ events qs path
events_swaps [] w = history_swaps w
events_swaps (k ∷ path) w = events_swaps path (swaps_under k w)

apart_filled : (a b : List ParsedSegment) (x y : Bool) → Apart a b → Apart (filled_path a x) (filled_path b y)
apart_filled [] b x y e = cc
apart_filled (s ∷ a) [] x y e = cc
apart_filled (s ∷ a) (t ∷ b) x y e = e

swaps_filled : {ps qs : List Pair} → Swaps ps qs → Swaps (filled ps) (filled qs)
swaps_filled (same ps) = same (filled ps)
swaps_filled (keep p w) = keep (record p { path = filled_path p.path p.push }) (swaps_filled w)
swaps_filled (swap p q ps h) = swap (record p { path = filled_path p.path p.push }) (record q { path = filled_path q.path q.push }) (filled ps) (apart_filled p.path q.path p.push q.push h)
swaps_filled (both w v) = both (swaps_filled w) (swaps_filled v)

pub heads_swap : (a b : List ParsedSegment) (ks : List Segment) → put_head a (put_head b ks) ≡ put_head b (put_head a ks)
heads_swap [] b ks = refl
heads_swap (s ∷ a) [] ks = refl
heads_swap (s ∷ a) (t ∷ b) ks = put_twice s.segment t.segment ks

-- the keys of a node depend on which segments come first, and not on their order
heads_swaps : {ps qs : List Pair} → Swaps ps qs → heads ps ≡ heads qs
heads_swaps (same ps) = refl
heads_swaps (keep p w) = ap (put_head p.path) (heads_swaps w)
heads_swaps (swap p q ps h) = heads_swap p.path q.path (heads ps)
heads_swaps (both w v) = heads_swaps w ∙ heads_swaps v

longest_swaps : {ps qs : List Pair} → Swaps ps qs → longest ps ≡ longest qs
longest_swaps (same ps) = refl
longest_swaps (keep p w) = ap (max _) (longest_swaps w)
longest_swaps (swap p q ps h) = omega arith
longest_swaps (both w v) = longest_swaps w ∙ longest_swaps v

entries_equivalent : (m n : Segment → Bool) (f g : Segment → Tree) → ((k : Segment) → ignoring_escapes (f k) ≡ ignoring_escapes (g k)) → (ks : List Segment) → entries_ignoring_escapes (entries_of m f ks) ≡ entries_ignoring_escapes (entries_of n g ks)
entries_equivalent m n f g h [] = refl
entries_equivalent m n f g h (k ∷ ks) = ap₂ (Entries.entry k false) (h k) (entries_equivalent m n f g h ks)

pub entries_same : (m n : Segment → Bool) (f g : Segment → Tree) → ((k : Segment) → ignoring_escapes (f k) ≡ ignoring_escapes (g k)) → (ks ls : List Segment) → ks ≡ ls → entries_ignoring_escapes (entries_of m f ks) ≡ entries_ignoring_escapes (entries_of n g ls)
entries_same m n f g h ks ls e = entries_equivalent m n f g h ks ∙ ap (λ l. entries_ignoring_escapes (entries_of n g l)) e

pub either : (b c : Bool) (s t u v : Tree) → b ≡ c → ignoring_escapes s ≡ ignoring_escapes t → ignoring_escapes u ≡ ignoring_escapes v → ignoring_escapes (cond b s u) ≡ ignoring_escapes (cond c t v)
either true true s t u v e f g = f
either true false s t u v e f g = cc
either false true s t u v e f g = cc
either false false s t u v e f g = g

pub node_within_swaps : (n : ℕ) {ps qs : List Pair} → Swaps ps qs → ignoring_escapes (node_within n ps) ≡ ignoring_escapes (node_within n qs)
node_within_swaps zero w = ap (λ h. ignoring_escapes (node_of_leaves h)) (history_swaps w)
node_within_swaps (suc n) {ps} {qs} w = either _ _ _ _ _ _
    (ap (list_any is_below) (history_swaps w))
    (ap Tree.mapping (entries_same _ _ (λ k. node_within n (under k (filled ps))) (λ k. node_within n (under k (filled qs))) (λ k. node_within_swaps n (swaps_under k (swaps_filled w))) _ _ (heads_swaps (swaps_filled w))))
    (ap (λ h. ignoring_escapes (node_of_leaves h)) (history_swaps w))

pub node_reordered : (ps qs : List Pair) → IsReordering overlap ps qs → ignoring_escapes (node ps) ≡ ignoring_escapes (node qs)
node_reordered ps qs h =
    let w = swaps_of ps qs h in
    node_within_swaps (longest ps) w ∙ ap (λ n. ignoring_escapes (node_within n qs)) (longest_swaps w)

pub permitted_reordered : (ps qs : List Pair) → IsReordering overlap ps qs → (path : List Segment) → permitted (events ps path) ≡ permitted (events qs path)
permitted_reordered ps qs h path = ap permitted (events_swaps path (swaps_of ps qs h))
