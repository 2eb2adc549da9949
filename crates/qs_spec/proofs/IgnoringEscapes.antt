-- Pairs have the same histories and, ignoring escapes, the same nodes if their escapes are ignored.
use Rattle.std.proofs.Common.{◌≡◌, ℕ, zero, suc, max, Bool, true, false, cond, ◌||◌, not, ◌&&◌, List, [], ◌∷◌, length, map, refl, ap, ap₂, ◌∙◌}
use Rattle.std.specs.List.{list_any}
use Rattle.qs_spec.specs.Segment.{Segment, ParsedSegment, is_same_segment}
use Rattle.qs_spec.specs.Leaf.{Leaf}
use Rattle.qs_spec.specs.Leaf.Leaf.{NoValue, Null, Text}
use Rattle.qs_spec.specs.Grammar.{Pair}
use Rattle.qs_spec.specs.History.{Event, event, event_of, under, events, is_below, is_push, begins_below, begins_assign_push, permitted}
use Rattle.qs_spec.specs.History.Event.{assign, push, below}
use Rattle.qs_spec.specs.Tree.{Tree, Items, leaves_in, leaf_items, node_of_leaves, filled, filled_path, put_head, heads, node_within, longest, node}
use Rattle.qs_spec.specs.Tree.Items.{item}
use Rattle.qs_spec.specs.Order.{leaf_ignoring_escapes, segment_ignoring_escapes, pair_ignoring_escapes, ignoring_escapes, items_ignoring_escapes}
use Rattle.qs_spec.proofs.Reorder.{entries_same, either}

abbrev pub ignoring : List Pair → List Pair
ignoring ps = map pair_ignoring_escapes ps

under_ignoring : (k : Segment) (ps : List Pair) → under k (ignoring ps) ≡ ignoring (under k ps)
under_ignoring k [] = refl
under_ignoring k (p ∷ ps) = by p.path (under_ignoring k ps)
  where
    by : (path : List ParsedSegment) → under k (ignoring ps) ≡ ignoring (under k ps) → under k (ignoring (record p { path = path } ∷ ps)) ≡ ignoring (under k (record p { path = path } ∷ ps))
    by [] e = e
    by (s ∷ path) e = each (is_same_segment k s.segment)
      where
        each : (b : Bool) → cond b (record p { path = map segment_ignoring_escapes path; leaf = leaf_ignoring_escapes p.leaf } ∷ under k (ignoring ps)) (under k (ignoring ps)) ≡ ignoring (cond b (record p { path = path } ∷ under k ps) (under k ps))
        each true = ap (λ l. record p { path = map segment_ignoring_escapes path; leaf = leaf_ignoring_escapes p.leaf } ∷ l) e
        each false = e

abbrev event_ignoring_escapes : Event → Event
event_ignoring_escapes (assign l) = assign (leaf_ignoring_escapes l)
event_ignoring_escapes (push l) = push (leaf_ignoring_escapes l)
event_ignoring_escapes below = below

abbrev ignoring_events : List Event → List Event
ignoring_events h = map event_ignoring_escapes h

history_ignoring : (ps : List Pair) → map event (ignoring ps) ≡ ignoring_events (map event ps)
history_ignoring [] = refl
history_ignoring (p ∷ ps) = ap₂ (λ e h. e ∷ h) (by p.path p.push) (history_ignoring ps)
  where
    by : (path : List ParsedSegment) (b : Bool) → event_of (map segment_ignoring_escapes path) b (leaf_ignoring_escapes p.leaf) ≡ event_ignoring_escapes (event_of path b p.leaf)
    by (s ∷ path) b = refl
    by [] true = refl
    by [] false = refl

events_ignoring : (path : List Segment) (ps : List Pair) → events (ignoring ps) path ≡ ignoring_events (events ps path)
events_ignoring [] ps = history_ignoring ps
events_ignoring (k ∷ path) ps = ap (λ (qs : List Pair). events qs path) (under_ignoring k ps) ∙ events_ignoring path (under k ps)

below_ignoring : (h : List Event) → list_any is_below (ignoring_events h) ≡ list_any is_below h
below_ignoring [] = refl
below_ignoring (assign l ∷ h) = below_ignoring h
below_ignoring (push l ∷ h) = below_ignoring h
below_ignoring (below ∷ h) = refl

push_ignoring : (h : List Event) → list_any is_push (ignoring_events h) ≡ list_any is_push h
push_ignoring [] = refl
push_ignoring (assign l ∷ h) = push_ignoring h
push_ignoring (push l ∷ h) = refl
push_ignoring (below ∷ h) = push_ignoring h

begins_below_ignoring : (h : List Event) → begins_below (ignoring_events h) ≡ begins_below h
begins_below_ignoring [] = refl
begins_below_ignoring (assign l ∷ h) = refl
begins_below_ignoring (push l ∷ h) = refl
begins_below_ignoring (below ∷ h) = refl

begins_assign_push_ignoring : (h : List Event) → begins_assign_push (ignoring_events h) ≡ begins_assign_push h
begins_assign_push_ignoring [] = refl
begins_assign_push_ignoring (assign l ∷ []) = refl
begins_assign_push_ignoring (assign l ∷ assign k ∷ h) = refl
begins_assign_push_ignoring (assign l ∷ push k ∷ h) = refl
begins_assign_push_ignoring (assign l ∷ below ∷ h) = refl
begins_assign_push_ignoring (push l ∷ h) = refl
begins_assign_push_ignoring (below ∷ h) = refl

permitted_events : (h : List Event) → permitted (ignoring_events h) ≡ permitted h
permitted_events h =
    ap₂ (λ a b. a || b)
    (ap₂ (λ a b. not a && not b) (below_ignoring h) (begins_assign_push_ignoring h))
    (ap₂ (λ a b. a && not b) (begins_below_ignoring h) (push_ignoring h))

pub permitted_ignoring : (ps : List Pair) (path : List Segment) → permitted (events (ignoring ps) path) ≡ permitted (events ps path)
permitted_ignoring ps path = ap permitted (events_ignoring path ps) ∙ permitted_events (events ps path)

filled_ignoring : (ps : List Pair) → filled (ignoring ps) ≡ ignoring (filled ps)
filled_ignoring [] = refl
filled_ignoring (p ∷ ps) = ap₂ (λ (path : List ParsedSegment) (l : List Pair). record p { path = path; leaf = leaf_ignoring_escapes p.leaf } ∷ l) (by p.path p.push) (filled_ignoring ps)
  where
    by : (path : List ParsedSegment) (b : Bool) → filled_path (map segment_ignoring_escapes path) b ≡ map segment_ignoring_escapes (filled_path path b)
    by [] true = refl
    by [] false = refl
    by (s ∷ path) b = refl

heads_ignoring : (ps : List Pair) → heads (ignoring ps) ≡ heads ps
heads_ignoring [] = refl
heads_ignoring (p ∷ ps) = by p.path (heads_ignoring ps)
  where
    by : (path : List ParsedSegment) → heads (ignoring ps) ≡ heads ps → put_head (map segment_ignoring_escapes path) (heads (ignoring ps)) ≡ put_head path (heads ps)
    by [] e = e
    by (s ∷ path) e = ap (put_head (s ∷ path)) e

longest_ignoring : (ps : List Pair) → longest (ignoring ps) ≡ longest ps
longest_ignoring [] = refl
longest_ignoring (p ∷ ps) = ap₂ max (by p.path) (longest_ignoring ps)
  where
    by : (path : List ParsedSegment) → length (map segment_ignoring_escapes path) ≡ length path
    by [] = refl
    by (s ∷ path) = ap suc (by path)

ignoring_twice : (l : Leaf) → leaf_ignoring_escapes (leaf_ignoring_escapes l) ≡ leaf_ignoring_escapes l
ignoring_twice NoValue = refl
ignoring_twice Null = refl
ignoring_twice (Text bytes escaped) = refl

items_ignoring : (h : List Event) → items_ignoring_escapes (leaf_items (leaves_in (ignoring_events h))) ≡ items_ignoring_escapes (leaf_items (leaves_in h))
items_ignoring [] = refl
items_ignoring (assign l ∷ h) = ap₂ (λ (k : Leaf) (xs : Items). item (Tree.leaf k) xs) (ignoring_twice l) (items_ignoring h)
items_ignoring (push l ∷ h) = ap₂ (λ (k : Leaf) (xs : Items). item (Tree.leaf k) xs) (ignoring_twice l) (items_ignoring h)
items_ignoring (below ∷ h) = items_ignoring h

leaves_ignoring : (h : List Event) → ignoring_escapes (node_of_leaves (ignoring_events h)) ≡ ignoring_escapes (node_of_leaves h)
leaves_ignoring [] = refl
leaves_ignoring (assign l ∷ []) = ap Tree.leaf (ignoring_twice l)
leaves_ignoring (assign l ∷ e ∷ h) = ap Tree.sequence (items_ignoring (assign l ∷ e ∷ h))
leaves_ignoring (push l ∷ h) = ap Tree.sequence (items_ignoring (push l ∷ h))
leaves_ignoring (below ∷ h) = ap Tree.sequence (items_ignoring (below ∷ h))

own_ignoring : (ps : List Pair) → ignoring_escapes (node_of_leaves (events (ignoring ps) [])) ≡ ignoring_escapes (node_of_leaves (events ps []))
own_ignoring ps = ap (λ h. ignoring_escapes (node_of_leaves h)) (history_ignoring ps) ∙ leaves_ignoring (map event ps)

node_within_ignoring : (n : ℕ) (ps : List Pair) → ignoring_escapes (node_within n (ignoring ps)) ≡ ignoring_escapes (node_within n ps)
node_within_ignoring zero ps = own_ignoring ps
node_within_ignoring (suc n) ps = either _ _ _ _ _ _
    (ap (list_any is_below) (history_ignoring ps) ∙ below_ignoring (map event ps))
    (ap Tree.mapping (entries_same _ _ (λ k. node_within n (under k (filled (ignoring ps)))) (λ k. node_within n (under k (filled ps))) (λ k.
    ap (λ (qs : List Pair). ignoring_escapes (node_within n qs)) (ap (under k) (filled_ignoring ps) ∙ under_ignoring k (filled ps)) ∙ node_within_ignoring n (under k (filled ps))) _ _
    (ap heads (filled_ignoring ps) ∙ heads_ignoring (filled ps))))
    (own_ignoring ps)

pub node_ignoring : (ps : List Pair) → ignoring_escapes (node (ignoring ps)) ≡ ignoring_escapes (node ps)
node_ignoring ps = ap (λ n. ignoring_escapes (node_within n (ignoring ps))) (longest_ignoring ps) ∙ node_within_ignoring (longest ps) ps
