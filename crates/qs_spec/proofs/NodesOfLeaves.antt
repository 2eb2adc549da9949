-- Histories, with one event more.
use Rattle.std.proofs.Common.{◌≡◌, Bool, true, false, cond, not, ◌&&◌, ◌||◌, List, [], ◌∷◌, ◌++◌, map, refl, sym, ap, ap₂, ◌∙◌, subst, Option, Some, None}
use Rattle.std.specs.List.{list_any}
use Rattle.std.proofs.lemmas.List.Folds.{list_any-append}
use Rattle.qs_spec.specs.Segment.{ParsedSegment}
use Rattle.qs_spec.specs.Leaf.{Leaf}
use Rattle.qs_spec.specs.Segment.Segment.{Str}
use Rattle.qs_spec.specs.Grammar.{Pair}
use Rattle.qs_spec.specs.History.{Event, event, event_of, is_below, is_push, begins_below, begins_assign_push, permitted, under}
use Rattle.qs_spec.specs.Tree.{leaves_in, leaf_items, node_of_leaves, filled, filled_path, Tree}
use Rattle.qs_spec.specs.History.Event.{assign, push, below}
use Rattle.qs_spec.specs.Tree.Tree.{leaf, sequence}
use Rattle.qs_spec.specs.Tree.Items.{item}
use Rattle.qs_spec.specs.internal.InPlace.{push_item, add_to_leaves}
use Rattle.qs_spec.proofs.OneMore.{NoEmpty, NoneEmpty, or-false}

-- histories without below
abbrev pub LeavesGo : List Event → Event → Option Tree → Type 0
LeavesGo h e None = permitted (h ++ e ∷ []) ≡ false
LeavesGo h e (Some t) = (permitted (h ++ e ∷ []) ≡ true) × (t ≡ node_of_leaves (h ++ e ∷ []))

pub any_push : {A : Type 0} (p : A → Bool) (xs : List A) (y : A) (b : Bool) → list_any p xs ≡ b → list_any p (xs ++ y ∷ []) ≡ (b || p y)
any_push p xs y b e = list_any-append p xs (y ∷ []) ∙ ap₂ (λ a c. a || c) e (or-false (p y))

leaves_push : (h : List Event) (b : Bool) (l : Leaf) → leaves_in (h ++ event_of [] b l ∷ []) ≡ leaves_in h ++ l ∷ []
leaves_push [] true l = refl
leaves_push [] false l = refl
leaves_push (assign o ∷ h) b l = ap (λ x. o ∷ x) (leaves_push h b l)
leaves_push (push o ∷ h) b l = ap (λ x. o ∷ x) (leaves_push h b l)
leaves_push (below ∷ h) b l = leaves_push h b l

items_push : (ls : List Leaf) (l : Leaf) → leaf_items (ls ++ l ∷ []) ≡ push_item (leaf_items ls) (leaf l)
items_push [] l = refl
items_push (o ∷ ls) l = ap (item (leaf o)) (items_push ls l)

-- the items of a history with one leaf more
more_items : (h : List Event) (b : Bool) (l : Leaf) → push_item (leaf_items (leaves_in h)) (leaf l) ≡ leaf_items (leaves_in (h ++ event_of [] b l ∷ []))
more_items h b l = sym (ap leaf_items (leaves_push h b l) ∙ items_push (leaves_in h) l)

pub own_not_below : (b : Bool) (l : Leaf) → is_below (event_of [] b l) ≡ false
own_not_below true l = refl
own_not_below false l = refl

pub leaves_adds : (h : List Event) (b : Bool) (l : Leaf) → list_any is_below h ≡ false → permitted h ≡ true → LeavesGo h (event_of [] b l) (add_to_leaves b l (node_of_leaves h))
leaves_adds [] true l e p = (refl, refl)
leaves_adds [] false l e p = (refl, refl)
leaves_adds (assign o ∷ []) true l e p = refl
leaves_adds (assign o ∷ []) false l e p = (refl, refl)
leaves_adds (assign o ∷ assign q ∷ h) true l e p = (ap (λ x. (not x && true) || false) (any_push is_below h (push l) false e), ap (λ xs. sequence (item (leaf o) (item (leaf q) xs))) (more_items h true l))
leaves_adds (assign o ∷ assign q ∷ h) false l e p = (ap (λ x. (not x && true) || false) (any_push is_below h (assign l) false e), ap (λ xs. sequence (item (leaf o) (item (leaf q) xs))) (more_items h false l))
leaves_adds (assign o ∷ push q ∷ h) b l e p = let w = sym (ap (λ x. (not x && false) || false) e) ∙ p in cc
leaves_adds (assign o ∷ below ∷ h) b l e p = cc
leaves_adds (push o ∷ h) true l e p = (ap (λ x. (not x && true) || false) (any_push is_below h (push l) false e), ap (λ xs. sequence (item (leaf o) xs)) (more_items h true l))
leaves_adds (push o ∷ h) false l e p = (ap (λ x. (not x && true) || false) (any_push is_below h (assign l) false e), ap (λ xs. sequence (item (leaf o) xs)) (more_items h false l))
leaves_adds (below ∷ h) b l e p = cc

-- histories with below that are permitted
pub begun : (h : List Event) → list_any is_below h ≡ true → permitted h ≡ true → (begins_below h ≡ true) × (list_any is_push h ≡ false)
begun h e p = by (begins_below h) (list_any is_push h) refl refl (sym (ap (λ a. (not a && not (begins_assign_push h)) || (begins_below h && not (list_any is_push h))) e) ∙ p)
  where
    by : (a b : Bool) → begins_below h ≡ a → list_any is_push h ≡ b → (begins_below h && not (list_any is_push h)) ≡ true → (begins_below h ≡ true) × (list_any is_push h ≡ false)
    by true false c d q = (c, d)
    by true true c d q = let w = sym (ap₂ (λ x y. x && not y) c d) ∙ q in cc
    by false b c d q = let w = sym (ap (λ x. x && not (list_any is_push h)) c) ∙ q in cc

pub still_permitted : (h : List Event) (e : Event) → begins_below h ≡ true → list_any is_push h ≡ false → permitted (h ++ e ∷ []) ≡ not (is_push e)
still_permitted [] e b p = cc
still_permitted (assign l ∷ h) e b p = cc
still_permitted (push l ∷ h) e b p = cc
still_permitted (below ∷ h) e b p = ap not (any_push is_push h e false p)

-- below at the end is below somewhere
below_last : (h g : List Event) → list_any is_below h ≡ false → list_any is_below (h ++ below ∷ g) ≡ true
below_last [] g n = refl
below_last (assign l ∷ h) g n = below_last h g n
below_last (push l ∷ h) g n = below_last h g n
below_last (below ∷ h) g n = refl

pub none_begun : (h : List Event) (e : Event) (g : List Event) → list_any is_below (e ∷ h) ≡ false → permitted ((e ∷ h) ++ below ∷ g) ≡ false
none_begun h (assign l) g n = by (below_last h g n)
  where
    by : list_any is_below (h ++ below ∷ g) ≡ true → permitted (assign l ∷ (h ++ below ∷ g)) ≡ false
    by w = ap (λ a. (not a && not (begins_assign_push (assign l ∷ (h ++ below ∷ g)))) || false) w
none_begun h (push l) g n = by (below_last h g n)
  where
    by : list_any is_below (h ++ below ∷ g) ≡ true → permitted (push l ∷ (h ++ below ∷ g)) ≡ false
    by w = ap (λ a. (not a && not (begins_assign_push (push l ∷ (h ++ below ∷ g)))) || false) w
none_begun h below g n = cc

-- what is under the empty text at a map is assigned
abbrev pub AllAssign : List Event → Type 0
AllAssign [] = Unit {0}
AllAssign (assign l ∷ h) = AllAssign h
AllAssign (push l ∷ h) = ⊥
AllAssign (below ∷ h) = ⊥

pub all_assign : (ps : List Pair) → NoneEmpty ps → list_any is_push (map event ps) ≡ false → AllAssign (map event (under (Str []) (filled ps)))
all_assign [] n e = tt
all_assign (p ∷ ps) n e = by p.path p.push n.0 e (all_assign ps n.1)
  where
    by : (path : List ParsedSegment) (b : Bool) → NoEmpty path → (is_push (event_of path b p.leaf) || list_any is_push (map event ps)) ≡ false → (list_any is_push (map event ps) ≡ false → AllAssign (map event (under (Str []) (filled ps))))
        → AllAssign (map event (under (Str []) (record p { path = filled_path path b; push = b } ∷ filled ps)))
    by [] true n e h = cc
    by [] false n e h = h e
    by (s ∷ path) b n e h = subst (λ x. AllAssign (map event (cond x (record p { path = path; push = b } ∷ under (Str []) (filled ps)) (under (Str []) (filled ps))))) (sym n.0) (h e)

pub assign_no_below : (h : List Event) → AllAssign h → list_any is_below h ≡ false
assign_no_below [] a = refl
assign_no_below (assign l ∷ h) a = assign_no_below h a
assign_no_below (push l ∷ h) a = absurd a
assign_no_below (below ∷ h) a = absurd a

assign_permitted : (h : List Event) → AllAssign h → permitted h ≡ true
assign_permitted [] a = refl
assign_permitted (assign l ∷ []) a = refl
assign_permitted (assign l ∷ assign k ∷ h) a = ap (λ x. (not x && true) || false) (assign_no_below h a)
assign_permitted (assign l ∷ push k ∷ h) a = absurd a
assign_permitted (assign l ∷ below ∷ h) a = absurd a
assign_permitted (push l ∷ h) a = absurd a
assign_permitted (below ∷ h) a = absurd a

pub assign_push : (h : List Event) (l : Leaf) → AllAssign h → AllAssign (h ++ assign l ∷ [])
assign_push [] l a = tt
assign_push (assign k ∷ h) l a = assign_push h l a
assign_push (push k ∷ h) l a = a
assign_push (below ∷ h) l a = a

-- adding to assigned leaves always succeeds
pub assign_adds : (h : List Event) (l : Leaf) → AllAssign h → add_to_leaves false l (node_of_leaves h) ≡ Some (node_of_leaves (h ++ assign l ∷ []))
assign_adds h l a = by (add_to_leaves false l (node_of_leaves h)) (leaves_adds h false l (assign_no_below h a) (assign_permitted h a))
  where
    by : (o : Option Tree) → LeavesGo h (assign l) o → o ≡ Some (node_of_leaves (h ++ assign l ∷ []))
    by None f = let w = sym (assign_permitted (h ++ assign l ∷ []) (assign_push h l a)) ∙ f in cc
    by (Some t) f = ap Some f.1
