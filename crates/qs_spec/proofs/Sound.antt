-- Trees of inputs are sound.
use Rattle.std.proofs.Common.{◌≡◌, ◌≢◌, ℕ, zero, suc, ◌≤◌, Bool, true, false, cond, ◌||◌, List, [], ◌∷◌, map, refl, sym, ap, ◌∙◌, subst, le_refl}
use Rattle.std.specs.List.{list_any}
use Rattle.qs_spec.specs.Segment.{Segment, ParsedSegment}
use Rattle.qs_spec.specs.Leaf.{Leaf}
use Rattle.qs_spec.specs.Segment.Segment.{Int, Str}
use Rattle.qs_spec.specs.Grammar.{Pair}
use Rattle.qs_spec.specs.History.{Event, event, event_of, events, under, is_below}
use Rattle.qs_spec.specs.Tree.{node_within, longest, Tree, IsTree, heads, put, put_head, entries_of, filled, filled_path, node_of_leaves, leaves_in, leaf_items}
use Rattle.qs_spec.specs.Segment.{is_same_segment}
use Rattle.qs_spec.specs.History.Event.{assign, push, below}
use Rattle.qs_spec.specs.Tree.Entries.{no_entries}
use Rattle.qs_spec.specs.Holds.{AreLeaves, IsSound, AreSound, IsLow, IsLowAtEmpty}
use Rattle.qs_spec.proofs.OneMore.{NoneEmpty, NoEmpty}
use Rattle.qs_spec.proofs.Insert.{node_is_of_leaves, node_mapping}
use Rattle.qs_spec.proofs.Order.{is_itself}
use Rattle.qs_spec.proofs.TreeOf.{any_put, longest_under}
use Rattle.qs_spec.proofs.Leaves.{none_below, longest_filled}
use Rattle.qs_spec.proofs.Empty.{none_empty}

-- what a tree holds
are_leaves : (ls : List Leaf) → AreLeaves (leaf_items ls)
are_leaves [] = tt
are_leaves (l ∷ ls) = (tt, are_leaves ls)

node_of_leaves_sound : (h : List Event) → list_any is_below h ≡ false → IsSound (node_of_leaves h)
node_of_leaves_sound [] e = tt
node_of_leaves_sound (assign l ∷ []) e = tt
node_of_leaves_sound (assign l ∷ d ∷ h) e = (λ w. cc, are_leaves (leaves_in (assign l ∷ d ∷ h)))
node_of_leaves_sound (push l ∷ h) e = (λ w. cc, are_leaves (leaves_in (push l ∷ h)))
node_of_leaves_sound (below ∷ h) e = cc

node_of_leaves_low : (h : List Event) → list_any is_below h ≡ false → h ≢ [] → IsLow (node_of_leaves h)
node_of_leaves_low [] e n = absurd (n refl)
node_of_leaves_low (assign l ∷ []) e n = tt
node_of_leaves_low (assign l ∷ d ∷ h) e n = tt
node_of_leaves_low (push l ∷ h) e n = tt
node_of_leaves_low (below ∷ h) e n = cc

some_put : (k : Segment) (ks : List Segment) → put k ks ≢ []
some_put k ks e = let w = sym (any_put k k ks) ∙ ap (list_any (is_same_segment k)) e in let v = sym (ap (λ b. b || list_any (is_same_segment k) ks) (is_itself k)) ∙ w in cc

some_under : (k : Segment) (ps : List Pair) → list_any (is_same_segment k) (heads ps) ≡ true → under k ps ≢ []
some_under k [] e = cc
some_under k (p ∷ ps) e = by p.path e (some_under k ps)
  where
    by : (path : List ParsedSegment) → list_any (is_same_segment k) (put_head path (heads ps)) ≡ true → (list_any (is_same_segment k) (heads ps) ≡ true → under k ps ≢ []) → under k (record p { path = path } ∷ ps) ≢ []
    by [] e h = h e
    by (s ∷ path) e h = each (is_same_segment k s.segment) (sym (any_put k s.segment (heads ps)) ∙ e)
      where
        each : (b : Bool) → (b || list_any (is_same_segment k) (heads ps)) ≡ true → cond b (record p { path = path } ∷ under k ps) (under k ps) ≢ []
        each true d = λ w. cc
        each false d = h d

none_empty_filled : (k : Segment) (ps : List Pair) → NoneEmpty ps → NoneEmpty (under k (filled ps))
none_empty_filled k [] m = tt
none_empty_filled k (p ∷ ps) m = by p.path p.push m.0 (none_empty_filled k ps m.1)
  where
    by : (path : List ParsedSegment) (b : Bool) → NoEmpty path → NoneEmpty (under k (filled ps)) → NoneEmpty (under k (record p { path = filled_path path b } ∷ filled ps))
    by [] true n h = h
    by [] false n h = each (is_same_segment k (Str []))
      where
        each : (b : Bool) → NoneEmpty (cond b (record p { path = [] } ∷ under k (filled ps)) (under k (filled ps)))
        each true = (tt, h)
        each false = h
    by (s ∷ path) b n h = each (is_same_segment k s.segment)
      where
        each : (b : Bool) → NoneEmpty (cond b (record p { path = path } ∷ under k (filled ps)) (under k (filled ps)))
        each true = (n.1, h)
        each false = h

own_leaves : (ps : List Pair) → NoneEmpty ps → list_any is_below (map event (under (Str []) (filled ps))) ≡ false
own_leaves [] m = refl
own_leaves (p ∷ ps) m = by p.path p.push m.0 (own_leaves ps m.1)
  where
    by : (path : List ParsedSegment) (b : Bool) → NoEmpty path → list_any is_below (map event (under (Str []) (filled ps))) ≡ false → list_any is_below (map event (under (Str []) (record p { path = filled_path path b; push = b } ∷ filled ps))) ≡ false
    by [] true n h = h
    by [] false n h = h
    by (s ∷ path) b n h = ap (λ x. list_any is_below (map event (cond x (record p { path = path; push = b } ∷ under (Str []) (filled ps)) (under (Str []) (filled ps))))) n.0 ∙ h

low_at : (n : ℕ) (ps : List Pair) → NoneEmpty ps → (k : Segment) → list_any (is_same_segment k) (heads (filled ps)) ≡ true → IsLowAtEmpty k (node_within n (under k (filled ps)))
low_at n ps m (Int i) e = tt
low_at n ps m (Str []) e = subst IsLow (sym (node_is_of_leaves n (under (Str []) (filled ps)) (own_leaves ps m))) (node_of_leaves_low (map event (under (Str []) (filled ps))) (own_leaves ps m) (λ w. some_under (Str []) (filled ps) e (none (under (Str []) (filled ps)) w)))
  where
    none : (qs : List Pair) → map event qs ≡ [] → qs ≡ []
    none [] e = refl
    none (q ∷ qs) e = cc
low_at n ps m (Str (b ∷ bytes)) e = tt

entries_sound : (g : Segment → Bool) (f : Segment → Tree) (ks : List Segment) → ((k : Segment) → list_any (is_same_segment k) ks ≡ true → IsLowAtEmpty k (f k)) → ((k : Segment) → IsSound (f k)) → AreSound (entries_of g f ks)
entries_sound g f [] l h = tt
entries_sound g f (k ∷ ks) l h = (l k (ap (λ b. b || list_any (is_same_segment k) ks) (is_itself k)), h k, entries_sound g f ks (λ j e. l j (or_right (is_same_segment j k) _ e)) h)
  where
    or_right : (a b : Bool) → b ≡ true → (a || b) ≡ true
    or_right true b e = refl
    or_right false b e = e

some_entries : (g : Segment → Bool) (f : Segment → Tree) (ks : List Segment) → ks ≢ [] → entries_of g f ks ≢ no_entries
some_entries g f [] n = λ w. n refl
some_entries g f (k ∷ ks) n = λ w. cc

some_heads : (ps : List Pair) → list_any is_below (map event ps) ≡ true → heads (filled ps) ≢ []
some_heads [] e = cc
some_heads (p ∷ ps) e = by p.path p.push e (some_heads ps)
  where
    by : (path : List ParsedSegment) (b : Bool) → (is_below (event_of path b p.leaf) || list_any is_below (map event ps)) ≡ true → (list_any is_below (map event ps) ≡ true → heads (filled ps) ≢ []) → put_head (filled_path path b) (heads (filled ps)) ≢ []
    by [] true e h = h e
    by [] false e h = some_put (Str []) (heads (filled ps))
    by (s ∷ path) b e h = some_put s.segment (heads (filled ps))

sound_within : (n : ℕ) (ps : List Pair) → longest ps ≤ n → NoneEmpty ps → IsSound (node_within n ps)
sound_within zero ps l m = node_of_leaves_sound (events ps []) (none_below ps l)
sound_within (suc n) ps l m = by (list_any is_below (map event ps)) refl (λ qs. sound_within n qs)
  where
    by : (b : Bool) → list_any is_below (map event ps) ≡ b → ((qs : List Pair) → longest qs ≤ n → NoneEmpty qs → IsSound (node_within n qs)) → IsSound (node_within (suc n) ps)
    by true e h = subst IsSound (sym (node_mapping n ps e))
        (some_entries _ _ (heads (filled ps)) (some_heads ps e), entries_sound _ (λ k. node_within n (under k (filled ps))) (heads (filled ps)) (low_at n ps m) (λ k. h (under k (filled ps)) (longest_under k n (filled ps) (longest_filled n ps l)) (none_empty_filled k ps m)))
    by false e h = subst IsSound (sym (node_is_of_leaves (suc n) ps e)) (node_of_leaves_sound (map event ps) e)

pub sound : (is_form : Bool) (depth : ℕ) (bytes : List ℕ) (t : Tree) → IsTree is_form depth bytes t → IsSound t
sound is_form depth [] t h = subst IsSound (sym h) tt
sound is_form depth (b ∷ bytes) t h = subst IsSound (sym h.2) (sound_within (longest h.0) h.0 (le_refl (longest h.0)) (none_empty is_form depth (b ∷ bytes) h.0 h.1.grammar))
