-- All pairs of an input, added in place.
use Rattle.std.proofs.Common.{◌≡◌, ◌↔◌, ℕ, max, ◌≤◌, Bool, true, false, cond, not, ◌&&◌, ◌||◌, List, [], ◌∷◌, ◌++◌, map, refl, sym, ap, ◌∙◌, subst, arith, Option, Some, None, option_and_then, append_assoc, append-nil, le_refl}
use Rattle.std.specs.List.{list_any}
use Rattle.std.proofs.lemmas.Option.{none-some, same_Some}
use Rattle.std.proofs.lemmas.List.Folds.{list_any-append}
use Rattle.qs_spec.specs.Segment.{Segment, ParsedSegment}
use Rattle.qs_spec.specs.Token.{tokens}
use Rattle.qs_spec.specs.Grammar.{Pair, ArePairs}
use Rattle.qs_spec.specs.History.{Event, event, events, under, is_below, is_push, permitted}
use Rattle.qs_spec.specs.Tree.{node_within, node, longest, Tree, IsTree}
use Rattle.qs_spec.specs.Segment.{is_same_segment}
use Rattle.qs_spec.specs.History.Event.{assign, push, below}
use Rattle.qs_spec.specs.Tree.Tree.{uninitialized}
use Rattle.qs_spec.specs.internal.InPlace.{add, add_all}
use Rattle.qs_spec.proofs.RelatedIsParsed.{one_list}
use Rattle.qs_spec.proofs.OneMore.{NoneEmpty, NoEmpty, Permitted}
use Rattle.qs_spec.proofs.Insert.{Goes, adds}
use Rattle.qs_spec.proofs.Update.{node_nothing}
use Rattle.qs_spec.proofs.Empty.{none_empty}

weaker : (a b : Bool) → ((not (a || b) && true) || false) ≡ true → ((not a && true) || false) ≡ true
weaker true b e = e
weaker false b e = refl

weaker_not : (a b : Bool) → not (a || b) ≡ true → not a ≡ true
weaker_not true b e = e
weaker_not false b e = refl

never : (x : Bool) → ((x && false) || false) ≡ true → ⊥
never true e = cc
never false e = cc

-- what was permitted up to now was permitted before
permitted_front : (h g : List Event) → permitted (h ++ g) ≡ true → permitted h ≡ true
permitted_front [] g e = refl
permitted_front (below ∷ h) g e = weaker_not (list_any is_push h) (list_any is_push g) (sym (ap not (list_any-append is_push h g)) ∙ e)
permitted_front (push l ∷ h) g e = weaker (list_any is_below h) (list_any is_below g) (sym (ap (λ x. (not x && true) || false) (list_any-append is_below h g)) ∙ e)
permitted_front (assign l ∷ []) g e = refl
permitted_front (assign l ∷ assign k ∷ h) g e = weaker (list_any is_below h) (list_any is_below g) (sym (ap (λ x. (not x && true) || false) (list_any-append is_below h g)) ∙ e)
permitted_front (assign l ∷ push k ∷ h) g e = absurd (never _ e)
permitted_front (assign l ∷ below ∷ h) g e = cc

pub under-append : (k : Segment) (ps qs : List Pair) → under k (ps ++ qs) ≡ under k ps ++ under k qs
under-append k [] qs = refl
under-append k (p ∷ ps) qs = by p.path (under-append k ps qs)
  where
    by : (path : List ParsedSegment) → under k (ps ++ qs) ≡ under k ps ++ under k qs → under k (record p { path = path } ∷ (ps ++ qs)) ≡ under k (record p { path = path } ∷ ps) ++ under k qs
    by [] e = e
    by (s ∷ path) e = each (is_same_segment k s.segment)
      where
        each : (b : Bool) → cond b (record p { path = path } ∷ under k (ps ++ qs)) (under k (ps ++ qs)) ≡ cond b (record p { path = path } ∷ under k ps) (under k ps) ++ under k qs
        each true = ap (λ l. record p { path = path } ∷ l) e
        each false = e

map-append : (ps qs : List Pair) → map event (ps ++ qs) ≡ map event ps ++ map event qs
map-append [] qs = refl
map-append (p ∷ ps) qs = ap (λ l. event p ∷ l) (map-append ps qs)

events-append : (path : List Segment) (ps qs : List Pair) → events (ps ++ qs) path ≡ events ps path ++ events qs path
events-append [] ps qs = map-append ps qs
events-append (k ∷ path) ps qs = ap (λ (l : List Pair). events l path) (under-append k ps qs) ∙ events-append path (under k ps) (under k qs)

front_permitted : (ps qs : List Pair) → Permitted (ps ++ qs) → Permitted ps
front_permitted ps qs h path = permitted_front (events ps path) (events qs path) (sym (ap permitted (events-append path ps qs)) ∙ h path)

longest-append : (ps qs : List Pair) → longest (ps ++ qs) ≡ max (longest ps) (longest qs)
longest-append [] qs = omega arith
longest-append (p ∷ ps) qs = omega (arith, longest-append ps qs)

none_more : (ps : List Pair) (p : Pair) → NoneEmpty ps → NoEmpty p.path → NoneEmpty (ps ++ p ∷ [])
none_more [] p h n = (n, tt)
none_more (q ∷ ps) p h n = (h.0, none_more ps p h.1 n)

-- after some pairs, what becomes of the rest
abbrev AllGo : ℕ → List Pair → Option Tree → Type 0
AllGo n ps None = Permitted ps → ⊥
AllGo n ps (Some t) = Permitted ps × (t ≡ node_within n ps)

all_go : (n : ℕ) (qs ps : List Pair) → longest ps ≤ n → longest qs ≤ n → NoneEmpty ps → NoneEmpty qs → Permitted ps → AllGo n (ps ++ qs) (add_all qs (node_within n ps))
all_go n [] ps l k m r p = subst (λ (x : List Pair). AllGo n x (Some (node_within n ps))) (sym (append-nil ps)) (p, refl)
all_go n (q ∷ qs) ps l k m r p =
    subst (λ (x : List Pair). AllGo n x (add_all (q ∷ qs) (node_within n ps))) (append_assoc ps (q ∷ []) qs)
    (by (add q.path q.push q.leaf (node_within n ps)) (adds q.path q.push q.leaf n ps l (omega arith) m r.0 p) (λ h. all_go n qs (ps ++ q ∷ []) (omega (arith, longest-append ps (q ∷ []))) (omega arith) (none_more ps q m r.0) r.1 h))
  where
    by : (o : Option Tree) → Goes n ps q o → (Permitted (ps ++ q ∷ []) → AllGo n ((ps ++ q ∷ []) ++ qs) (add_all qs (node_within n (ps ++ q ∷ [])))) → AllGo n ((ps ++ q ∷ []) ++ qs) (option_and_then (add_all qs) o)
    by None g h = λ w. g (front_permitted (ps ++ q ∷ []) qs w)
    by (Some t) g h = subst (λ u. AllGo n ((ps ++ q ∷ []) ++ qs) (add_all qs u)) (sym g.1) (h g.0)

nothing_permitted : Permitted []
nothing_permitted [] = refl
nothing_permitted (k ∷ path) = nothing_permitted path

pub in_place : (is_form : Bool) (depth b : ℕ) (bytes : List ℕ) (ps : List Pair) (t : Tree) → ArePairs depth (tokens is_form (b ∷ bytes)) ps → ((add_all ps uninitialized ≡ Some t) ↔ IsTree is_form depth (b ∷ bytes) t)
in_place is_form depth b bytes ps t g = (there (add_all ps uninitialized) result, back (add_all ps uninitialized) result)
  where
    result : AllGo (longest ps) ps (add_all ps uninitialized)
    result = subst (λ u. AllGo (longest ps) ps (add_all ps u)) (node_nothing (longest ps)) (all_go (longest ps) ps [] (omega arith) (le_refl (longest ps)) tt (none_empty is_form depth (b ∷ bytes) ps g) nothing_permitted)

    there : (o : Option Tree) → AllGo (longest ps) ps o → o ≡ Some t → IsTree is_form depth (b ∷ bytes) t
    there None h e = absurd (none-some t e)
    there (Some u) h e = (ps, record { grammar = g; histories = h.0 }, sym (same_Some u t e) ∙ h.1)

    back : (o : Option Tree) → AllGo (longest ps) ps o → IsTree is_form depth (b ∷ bytes) t → o ≡ Some t
    back o h i = here o h (subst (λ (qs : List Pair). Permitted qs × (t ≡ node qs)) (one_list depth (tokens is_form (b ∷ bytes)) i.0 ps i.1.grammar g) (i.1.histories, i.2))
      where
        here : (o : Option Tree) → AllGo (longest ps) ps o → Permitted ps × (t ≡ node ps) → o ≡ Some t
        here None h i = absurd (h i.0)
        here (Some u) h i = ap Some (h.1 ∙ sym i.1)
