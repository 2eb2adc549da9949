-- Lists of pairs with one more at their end.
use Rattle.std.proofs.Common.{◌≡◌, Bool, true, false, cond, ◌||◌, List, [], ◌∷◌, ◌++◌, map, refl, sym, ap, ◌∙◌}
use Rattle.std.specs.List.{list_any, AllByRecursion}
use Rattle.qs_spec.specs.Segment.{Segment, ParsedSegment}
use Rattle.qs_spec.specs.Leaf.{Leaf}
use Rattle.qs_spec.specs.Segment.Segment.{Str}
use Rattle.qs_spec.specs.Grammar.{Pair}
use Rattle.qs_spec.specs.History.{event, events, permitted, under}
use Rattle.qs_spec.specs.Tree.{heads, put_head, put, filled, filled_path, head_escaped}
use Rattle.qs_spec.specs.Segment.{is_same_segment}
use Rattle.qs_spec.proofs.Order.{put_twice}
use Rattle.qs_spec.proofs.TreeOf.{any_put}
use Rattle.qs_spec.proofs.Booleans.{or_both}

abbrev pub pair : List ParsedSegment → Bool → Leaf → Pair
pair path b l = record { path = path; push = b; leaf = l }

-- no segment is the empty text
abbrev pub NoEmpty : List ParsedSegment → Type 0
NoEmpty path = AllByRecursion (λ s. is_same_segment (Str []) s.segment ≡ false) path

abbrev pub NoneEmpty : List Pair → Type 0
NoneEmpty ps = AllByRecursion (λ p. NoEmpty p.path) ps

abbrev pub Permitted : List Pair → Type 0
Permitted ps = (path : List Segment) → permitted (events ps path) ≡ true

-- lists of pairs with one more
pub under_push : (k : Segment) (ps : List Pair) (p : Pair) → under k (ps ++ p ∷ []) ≡ under k ps ++ under k (p ∷ [])
under_push k [] p = refl
under_push k (q ∷ ps) p = by q.path (under_push k ps p)
  where
    by : (path : List ParsedSegment) → under k (ps ++ p ∷ []) ≡ under k ps ++ under k (p ∷ []) → under k (record q { path = path } ∷ (ps ++ p ∷ [])) ≡ under k (record q { path = path } ∷ ps) ++ under k (p ∷ [])
    by [] e = e
    by (s ∷ path) e = each (is_same_segment k s.segment)
      where
        each : (b : Bool) → cond b (record q { path = path } ∷ under k (ps ++ p ∷ [])) (under k (ps ++ p ∷ [])) ≡ cond b (record q { path = path } ∷ under k ps) (under k ps) ++ under k (p ∷ [])
        each true = ap (λ l. record q { path = path } ∷ l) e
        each false = e

pub history_push : (ps : List Pair) (p : Pair) → map event (ps ++ p ∷ []) ≡ map event ps ++ event p ∷ []
history_push [] p = refl
history_push (q ∷ ps) p = ap (λ h. event q ∷ h) (history_push ps p)

pub filled_push : (ps : List Pair) (p : Pair) → filled (ps ++ p ∷ []) ≡ filled ps ++ filled (p ∷ [])
filled_push [] p = refl
filled_push (q ∷ ps) p = ap (λ l. record q { path = filled_path q.path q.push } ∷ l) (filled_push ps p)

pub heads_push : (ps : List Pair) (s : ParsedSegment) (path : List ParsedSegment) (b : Bool) (l : Leaf) → heads (ps ++ pair (s ∷ path) b l ∷ []) ≡ put s.segment (heads ps)
heads_push [] s path b l = refl
heads_push (q ∷ ps) s path b l = ap (put_head q.path) (heads_push ps s path b l) ∙ by q.path
  where
    by : (p : List ParsedSegment) → put_head p (put s.segment (heads ps)) ≡ put s.segment (put_head p (heads ps))
    by [] = refl
    by (t ∷ p) = put_twice t.segment s.segment (heads ps)

pub or-false : (b : Bool) → (b || false) ≡ b
or-false true = refl
or-false false = refl

-- whether another key is escaped stays, also for a key that is there
pub escaped_push : (k : Segment) (ps : List Pair) (s : ParsedSegment) (path : List ParsedSegment) (b : Bool) (l : Leaf) → is_same_segment k s.segment ≡ false → head_escaped k (ps ++ pair (s ∷ path) b l ∷ []) ≡ head_escaped k ps
escaped_push k [] s path b l e = ap (λ x. cond x s.escaped false) e
escaped_push k (q ∷ ps) s path b l e = ap (λ m. elim q.path [ [] ↦ m | (t ∷ p) ↦ cond (is_same_segment k t.segment) t.escaped m ]) (escaped_push k ps s path b l e)

pub escaped_there : (k : Segment) (ps qs : List Pair) → list_any (is_same_segment k) (heads ps) ≡ true → head_escaped k (ps ++ qs) ≡ head_escaped k ps
escaped_there k [] qs e = cc
escaped_there k (q ∷ ps) qs e = by q.path e (escaped_there k ps qs)
  where
    by : (p : List ParsedSegment) → list_any (is_same_segment k) (put_head p (heads ps)) ≡ true → (list_any (is_same_segment k) (heads ps) ≡ true → head_escaped k (ps ++ qs) ≡ head_escaped k ps) → head_escaped k (record q { path = p } ∷ (ps ++ qs)) ≡ head_escaped k (record q { path = p } ∷ ps)
    by [] e h = h e
    by (t ∷ p) e h = each (is_same_segment k t.segment) (sym (any_put k t.segment (heads ps)) ∙ e)
      where
        each : (x : Bool) → (x || list_any (is_same_segment k) (heads ps)) ≡ true → cond x t.escaped (head_escaped k (ps ++ qs)) ≡ cond x t.escaped (head_escaped k ps)
        each true d = refl
        each false d = h d

pub escaped_new : (k : Segment) (ps : List Pair) (s : ParsedSegment) (path : List ParsedSegment) (b : Bool) (l : Leaf) → list_any (is_same_segment k) (heads ps) ≡ false → is_same_segment k s.segment ≡ true → head_escaped k (ps ++ pair (s ∷ path) b l ∷ []) ≡ s.escaped
escaped_new k [] s path b l n e = ap (λ x. cond x s.escaped false) e
escaped_new k (q ∷ ps) s path b l n e = by q.path n (escaped_new k ps s path b l)
  where
    by : (p : List ParsedSegment) → list_any (is_same_segment k) (put_head p (heads ps)) ≡ false → (list_any (is_same_segment k) (heads ps) ≡ false → is_same_segment k s.segment ≡ true → head_escaped k (ps ++ pair (s ∷ path) b l ∷ []) ≡ s.escaped) → head_escaped k (record q { path = p } ∷ (ps ++ pair (s ∷ path) b l ∷ [])) ≡ s.escaped
    by [] n h = h n e
    by (t ∷ p) n h =
        let parts = or_both (is_same_segment k t.segment) _ (sym (any_put k t.segment (heads ps)) ∙ n) in
        ap (λ x. cond x t.escaped (head_escaped k (ps ++ pair (s ∷ path) b l ∷ []))) parts.0 ∙ h parts.1 e
