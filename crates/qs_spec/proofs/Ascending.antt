-- The maps of a tree of an input have ascending keys, whose indices have 32 bits.
use Rattle.std.proofs.Common.{◌≡◌, ℕ, zero, suc, Bool, true, false, cond, List, [], ◌∷◌, refl, sym, subst, Ordering, Less, Equal, Greater}
use Rattle.std.specs.List.{AllByRecursion, list_any}
use Rattle.qs_spec.specs.Escape.{decoded}
use Rattle.qs_spec.specs.Segment.{Segment, ParsedSegment, segment_of, is_index, number, compare_segments, is_same_segment}
use Rattle.qs_spec.specs.Segment.Segment.{Int, Str}
use Rattle.qs_spec.specs.Grammar.{Pair}
use Rattle.qs_spec.specs.History.{Event, events, is_below, under}
use Rattle.qs_spec.specs.History.Event.{assign, push, below}
use Rattle.qs_spec.specs.Tree.{Tree, IsTree, node_of_leaves, put, put_head, heads, filled, filled_path, head_escaped, entries_of, node_within, longest}
use Rattle.qs_spec.specs.internal.Keys.{IsInRange, AreAbove, AreAscending, IsAscending, HoldAscending}
use Rattle.qs_spec.proofs.Order.{put_lt, put_eq, put_gt}
use Rattle.qs_spec.proofs.Segments.{HasBytes, AllOfPath, AllSegments, all_segments}
use Rattle.qs_spec.proofs.Leaves.{Ascends, ascends_heads}
use Rattle.qs_spec.proofs.KeysBack.{index_below}

in_range : (raw : List ℕ) → HasBytes raw → IsInRange (segment_of raw)
in_range raw h = by (is_index raw) refl
  where
    by : (b : Bool) → is_index raw ≡ b → IsInRange (cond b (Int (number raw)) (Str (decoded raw)))
    by true e = index_below raw e
    by false e = tt

put_in_range : (k : Segment) (ks : List Segment) → IsInRange k → AllByRecursion IsInRange ks → AllByRecursion IsInRange (put k ks)
put_in_range k [] r h = (r, tt)
put_in_range k (x ∷ xs) r h = by (put_in_range k xs r h.1) (compare_segments k x) refl
  where
    by : AllByRecursion IsInRange (put k xs) → (o : Ordering) → compare_segments k x ≡ o → AllByRecursion IsInRange (put k (x ∷ xs))
    by more Less e = subst (AllByRecursion IsInRange) (sym (put_lt k x xs e)) (r, h)
    by more Equal e = subst (AllByRecursion IsInRange) (sym (put_eq k x xs e)) h
    by more Greater e = subst (AllByRecursion IsInRange) (sym (put_gt k x xs e)) (h.0, more)

heads_in_range : (ps : List Pair) → AllSegments IsInRange ps → AllByRecursion IsInRange (heads ps)
heads_in_range [] h = tt
heads_in_range (p ∷ ps) h = by p.path h.0 (heads_in_range ps h.1)
  where
    by : (path : List ParsedSegment) → AllOfPath IsInRange path → AllByRecursion IsInRange (heads ps) → AllByRecursion IsInRange (put_head path (heads ps))
    by [] r more = more
    by (s ∷ path) r more = put_in_range s.segment (heads ps) r.0 more

filled_in_range : (ps : List Pair) → AllSegments IsInRange ps → AllSegments IsInRange (filled ps)
filled_in_range [] h = tt
filled_in_range (p ∷ ps) h = (by p.path p.push h.0, filled_in_range ps h.1)
  where
    by : (path : List ParsedSegment) (b : Bool) → AllOfPath IsInRange path → AllOfPath IsInRange (filled_path path b)
    by [] true r = tt
    by [] false r = (tt, tt)
    by (s ∷ path) b r = r

under_in_range : (k : Segment) (ps : List Pair) → AllSegments IsInRange ps → AllSegments IsInRange (under k ps)
under_in_range k [] h = tt
under_in_range k (p ∷ ps) h = by p.path h.0 (under_in_range k ps h.1)
  where
    by : (path : List ParsedSegment) → AllOfPath IsInRange path → AllSegments IsInRange (under k ps) → AllSegments IsInRange (under k (record p { path = path } ∷ ps))
    by [] r more = more
    by (s ∷ path) r more = each (is_same_segment k s.segment)
      where
        each : (b : Bool) → AllSegments IsInRange (cond b (record p { path = path } ∷ under k ps) (under k ps))
        each true = (r.1, more)
        each false = more

entries_above : (m : Segment → Bool) (f : Segment → Tree) (k : Segment) (ks : List Segment) → AllByRecursion (λ j. compare_segments k j ≡ Less) ks → AreAbove k (entries_of m f ks)
entries_above m f k [] h = tt
entries_above m f k (j ∷ ks) h = (h.0, entries_above m f k ks h.1)

entries_ascend : (m : Segment → Bool) (f : Segment → Tree) (ks : List Segment) → Ascends ks → AllByRecursion IsInRange ks → AreAscending (entries_of m f ks)
entries_ascend m f [] a r = tt
entries_ascend m f (k ∷ ks) a r = (r.0, entries_above m f k ks a.0, entries_ascend m f ks a.1 r.1)

entries_hold : (m : Segment → Bool) (f : Segment → Tree) → ((k : Segment) → IsAscending (f k)) → (ks : List Segment) → HoldAscending (entries_of m f ks)
entries_hold m f h [] = tt
entries_hold m f h (k ∷ ks) = (h k, entries_hold m f h ks)

node_of_leaves_ascends : (h : List Event) → IsAscending (node_of_leaves h)
node_of_leaves_ascends [] = tt
node_of_leaves_ascends (assign l ∷ []) = tt
node_of_leaves_ascends (assign l ∷ e ∷ h) = tt
node_of_leaves_ascends (push l ∷ h) = tt
node_of_leaves_ascends (below ∷ h) = tt

node_ascends : (n : ℕ) (ps : List Pair) → AllSegments IsInRange ps → IsAscending (node_within n ps)
node_ascends zero ps r = node_of_leaves_ascends (events ps [])
node_ascends (suc n) ps r = by (λ qs s. node_ascends n qs s) (list_any is_below (events ps []))
  where
    by : ((qs : List Pair) → AllSegments IsInRange qs → IsAscending (node_within n qs)) → (b : Bool)
        → IsAscending (cond b (Tree.mapping (entries_of (λ k. head_escaped k (filled ps)) (λ k. node_within n (under k (filled ps))) (heads (filled ps)))) (node_of_leaves (events ps [])))
    by h true = let f = filled_in_range ps r in
        (entries_ascend _ _ (heads (filled ps)) (ascends_heads (filled ps)) (heads_in_range (filled ps) f), entries_hold _ (λ k. node_within n (under k (filled ps))) (λ k. h (under k (filled ps)) (under_in_range k (filled ps) f)) (heads (filled ps)))
    by h false = node_of_leaves_ascends (events ps [])

pub tree_ascends : (is_form : Bool) (depth : ℕ) (bytes : List ℕ) (t : Tree) → IsTree is_form depth bytes t → IsAscending t
tree_ascends is_form depth [] t h = subst IsAscending (sym h) tt
tree_ascends is_form depth (b ∷ bytes) t h = subst IsAscending (sym h.2) (node_ascends (longest h.0) h.0 (all_segments IsInRange in_range is_form depth (b ∷ bytes) h.0 h.1.grammar))
