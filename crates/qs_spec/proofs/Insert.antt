-- Adding one pair to a tree in place is adding it to the pairs.
use Rattle.std.proofs.Common.{◌≡◌, ℕ, zero, suc, ◌≤◌, Bool, true, false, cond, List, [], ◌∷◌, ◌++◌, length, map, refl, sym, ap, ◌∙◌, subst, arith, Option, Some, None, option_map, append-nil}
use Rattle.std.specs.List.{list_any}
use Rattle.std.proofs.lemmas.Option.{none-some, same_Some}
use Rattle.qs_spec.specs.Segment.{Segment, ParsedSegment}
use Rattle.qs_spec.specs.Leaf.{Leaf}
use Rattle.qs_spec.specs.Segment.Segment.{Str}
use Rattle.qs_spec.specs.Grammar.{Pair}
use Rattle.qs_spec.specs.History.{Event, event, event_of, events, is_below, permitted, under}
use Rattle.qs_spec.specs.Tree.{node_of_leaves, filled, filled_path, empty_segment, node_within, longest, Tree}
use Rattle.qs_spec.specs.Segment.{is_same_segment}
use Rattle.qs_spec.specs.History.Event.{assign, push, below}
use Rattle.qs_spec.specs.Tree.Tree.{mapping, uninitialized}
use Rattle.qs_spec.specs.Tree.Entries.{entry, no_entries}
use Rattle.qs_spec.specs.internal.InPlace.{update, add_to_leaves, add_here, add_below, add}
use Rattle.qs_spec.proofs.Order.{is_itself, same_turned}
use Rattle.qs_spec.proofs.TreeOf.{longest_under, same_segment}
use Rattle.qs_spec.proofs.Leaves.{none_below}
use Rattle.qs_spec.proofs.OneMore.{pair, NoEmpty, NoneEmpty, Permitted, under_push, history_push, filled_push}
use Rattle.qs_spec.proofs.Update.{entries_within, node_nothing, under_same, under_other, update_pairs}
use Rattle.qs_spec.proofs.NodesOfLeaves.{LeavesGo, any_push, own_not_below, leaves_adds, begun, still_permitted, none_begun, AllAssign, all_assign, assign_no_below, assign_push, assign_adds}

pub node_is_of_leaves : (n : ℕ) (ps : List Pair) → list_any is_below (map event ps) ≡ false → node_within n ps ≡ node_of_leaves (map event ps)
node_is_of_leaves zero ps e = refl
node_is_of_leaves (suc n) ps e = ap (λ b. cond b (mapping (entries_within n (filled ps))) (node_of_leaves (map event ps))) e

pub node_mapping : (n : ℕ) (ps : List Pair) → list_any is_below (map event ps) ≡ true → node_within (suc n) ps ≡ mapping (entries_within n (filled ps))
node_mapping n ps e = ap (λ b. cond b (mapping (entries_within n (filled ps))) (node_of_leaves (map event ps))) e

-- a pair that is added goes on exactly where the histories stay permitted
abbrev pub Goes : ℕ → List Pair → Pair → Option Tree → Type 0
Goes n ps p None = Permitted (ps ++ p ∷ []) → ⊥
Goes n ps p (Some t) = Permitted (ps ++ p ∷ []) × (t ≡ node_within n (ps ++ p ∷ []))

root_history : (ps : List Pair) (p : Pair) → permitted (map event (ps ++ p ∷ [])) ≡ permitted (map event ps ++ event p ∷ [])
root_history ps p = ap permitted (history_push ps p)

-- at the pair's own path, other histories are as before
own_permitted : (ps : List Pair) (b : Bool) (l : Leaf) → Permitted ps → permitted (map event ps ++ event_of [] b l ∷ []) ≡ true → Permitted (ps ++ pair [] b l ∷ [])
own_permitted ps b l p e [] = root_history ps (pair [] b l) ∙ e
own_permitted ps b l p e (k ∷ path) = ap (λ (qs : List Pair). permitted (events qs path)) (under_push k ps (pair [] b l) ∙ append-nil (under k ps)) ∙ p (k ∷ path)

here_at_leaves : (b : Bool) (l : Leaf) (h : List Event) → add_here b l (node_of_leaves h) ≡ add_to_leaves b l (node_of_leaves h)
here_at_leaves true l [] = refl
here_at_leaves false l [] = refl
here_at_leaves true l (assign o ∷ []) = refl
here_at_leaves false l (assign o ∷ []) = refl
here_at_leaves true l (assign o ∷ e ∷ h) = refl
here_at_leaves false l (assign o ∷ e ∷ h) = refl
here_at_leaves true l (push o ∷ h) = refl
here_at_leaves false l (push o ∷ h) = refl
here_at_leaves true l (below ∷ h) = refl
here_at_leaves false l (below ∷ h) = refl

adds_to_leaves : (n : ℕ) (ps : List Pair) (b : Bool) (l : Leaf) → Permitted ps → list_any is_below (map event ps) ≡ false → Goes n ps (pair [] b l) (add_here b l (node_within n ps))
adds_to_leaves n ps b l p e = subst (Goes n ps (pair [] b l)) (sym (ap (add_here b l) (node_is_of_leaves n ps e) ∙ here_at_leaves b l (map event ps))) (by (add_to_leaves b l (node_of_leaves (map event ps))) (leaves_adds (map event ps) b l e (p [])))
  where
    after : list_any is_below (map event (ps ++ pair [] b l ∷ [])) ≡ false
    after = ap (list_any is_below) (history_push ps (pair [] b l)) ∙ any_push is_below (map event ps) (event_of [] b l) false e ∙ own_not_below b l

    by : (o : Option Tree) → LeavesGo (map event ps) (event_of [] b l) o → Goes n ps (pair [] b l) o
    by None f = λ q. let w = sym (q []) ∙ root_history ps (pair [] b l) ∙ f in cc
    by (Some t) f = (own_permitted ps b l p f.0, f.1 ∙ ap node_of_leaves (sym (history_push ps (pair [] b l))) ∙ sym (node_is_of_leaves n (ps ++ pair [] b l ∷ []) after))

any_after : (ps : List Pair) (p : Pair) → list_any is_below (map event ps) ≡ true → list_any is_below (map event (ps ++ p ∷ [])) ≡ true
any_after ps p e = ap (list_any is_below) (history_push ps p) ∙ any_push is_below (map event ps) (event p) true e

adds_map : (n : ℕ) (ps : List Pair) (b : Bool) (l : Leaf) → NoneEmpty ps → Permitted ps → list_any is_below (map event ps) ≡ true → Goes (suc n) ps (pair [] b l) (add_here b l (node_within (suc n) ps))
adds_map n ps true l m p e = subst (λ t. Goes (suc n) ps (pair [] true l) (add_here true l t)) (sym (node_mapping n ps e))
    (λ q. let h = begun (map event ps) e (p []) in
    let w = sym (q []) ∙ root_history ps (pair [] true l) ∙ still_permitted (map event ps) (push l) h.0 h.1 in cc)
adds_map n ps false l m p e =
    let h = begun (map event ps) e (p []) in
    let own = under (Str []) (filled ps) in
    let all : AllAssign (map event own) = all_assign ps m h.1 in
    let made : add_to_leaves false l (node_within n own) ≡ Some (node_of_leaves (map event own ++ assign l ∷ [])) = ap (add_to_leaves false l) (node_is_of_leaves n own (assign_no_below (map event own) all)) ∙ assign_adds (map event own) l all in
    let next : node_of_leaves (map event own ++ assign l ∷ []) ≡ node_within n (own ++ pair [] false l ∷ []) =
    ap node_of_leaves (sym (history_push own (pair [] false l))) ∙ sym (node_is_of_leaves n (own ++ pair [] false l ∷ []) (ap (list_any is_below) (history_push own (pair [] false l)) ∙ assign_no_below (map event own ++ assign l ∷ []) (assign_push (map event own) l all))) in
    let up : update empty_segment (add_to_leaves false l) (entries_within n (filled ps)) ≡ Some (entries_within n (filled ps ++ pair (empty_segment ∷ []) false l ∷ [])) =
    update_pairs n (filled ps) empty_segment [] false l (add_to_leaves false l) (Some (node_of_leaves (map event own ++ assign l ∷ []))) made (λ t d. sym (same_Some _ t d) ∙ next) in
    subst (λ o. Goes (suc n) ps (pair [] false l) o) (sym (ap (add_here false l) (node_mapping n ps e) ∙ ap (option_map mapping) up)) (
      own_permitted ps false l p (still_permitted (map event ps) (assign l) h.0 h.1),
      ap (λ (qs : List Pair). mapping (entries_within n qs)) (sym (filled_push ps (pair [] false l))) ∙ sym (node_mapping n (ps ++ pair [] false l ∷ []) (any_after ps (pair [] false l) e)),
    )

pub under_filled : (k : Segment) (ps : List Pair) → is_same_segment (Str []) k ≡ false → under k (filled ps) ≡ under k ps
under_filled k [] e = refl
under_filled k (p ∷ ps) e = by p.path p.push (under_filled k ps e)
  where
    by : (path : List ParsedSegment) (b : Bool) → under k (filled ps) ≡ under k ps → under k (record p { path = filled_path path b } ∷ filled ps) ≡ under k (record p { path = path } ∷ ps)
    by [] true h = h
    by [] false h = ap (λ x. cond x (record p { path = [] } ∷ under k (filled ps)) (under k (filled ps))) (same_turned k (Str []) ∙ e) ∙ h
    by (s ∷ path) b h = ap (λ (l : List Pair). cond (is_same_segment k s.segment) (record p { path = path } ∷ l) l) h

pub none_empty_under : (k : Segment) (ps : List Pair) → NoneEmpty ps → NoneEmpty (under k ps)
none_empty_under k [] h = tt
none_empty_under k (p ∷ ps) h = by p.path h.0 (none_empty_under k ps h.1)
  where
    by : (path : List ParsedSegment) → NoEmpty path → NoneEmpty (under k ps) → NoneEmpty (under k (record p { path = path } ∷ ps))
    by [] n h = h
    by (s ∷ path) n h = each (is_same_segment k s.segment)
      where
        each : (x : Bool) → NoneEmpty (cond x (record p { path = path } ∷ under k ps) (under k ps))
        each true = (n.1, h)
        each false = h

pub permitted_under : (ps : List Pair) (k : Segment) → Permitted ps → Permitted (under k ps)
permitted_under ps k p path = p (k ∷ path)

-- a pair that goes on below s concerns the histories there, and the root's
below_permitted : (ps : List Pair) (s : ParsedSegment) (path : List ParsedSegment) (b : Bool) (l : Leaf) → Permitted ps → permitted (map event ps ++ below ∷ []) ≡ true → Permitted (under s.segment ps ++ pair path b l ∷ []) → Permitted (ps ++ pair (s ∷ path) b l ∷ [])
below_permitted ps s path b l p r h [] = root_history ps (pair (s ∷ path) b l) ∙ r
below_permitted ps s path b l p r h (k ∷ rest) = by (is_same_segment k s.segment) refl
  where
    by : (x : Bool) → is_same_segment k s.segment ≡ x → permitted (events (under k (ps ++ pair (s ∷ path) b l ∷ [])) rest) ≡ true
    by true e = ap (λ (j : Segment). permitted (events (under j (ps ++ pair (s ∷ path) b l ∷ [])) rest)) (same_segment k s.segment e) ∙ ap (λ (qs : List Pair). permitted (events qs rest)) (under_same s ps path b l) ∙ h rest
    by false e = ap (λ (qs : List Pair). permitted (events qs rest)) (under_other k s ps path b l e) ∙ p (k ∷ rest)

permitted_below : (ps : List Pair) (s : ParsedSegment) (path : List ParsedSegment) (b : Bool) (l : Leaf) → Permitted (ps ++ pair (s ∷ path) b l ∷ []) → Permitted (under s.segment ps ++ pair path b l ∷ [])
permitted_below ps s path b l p rest = sym (ap (λ (qs : List Pair). permitted (events qs rest)) (under_same s ps path b l)) ∙ p (s.segment ∷ rest)

below_leaves : (s : ParsedSegment) (g : Tree → Option Tree) (e : Event) (h : List Event) → list_any is_below (e ∷ h) ≡ false → add_below s g (node_of_leaves (e ∷ h)) ≡ None
below_leaves s g (assign l) [] n = refl
below_leaves s g (assign l) (d ∷ h) n = refl
below_leaves s g (push l) h n = refl
below_leaves s g below h n = cc

adds_one : (n : ℕ) (s : ParsedSegment) (path : List ParsedSegment) (b : Bool) (l : Leaf) → node_within (suc n) (pair (s ∷ path) b l ∷ []) ≡ mapping (entry s.segment s.escaped (node_within n (pair path b l ∷ [])) no_entries)
adds_one n s path b l = ap (λ x. mapping (entry s.segment (cond x s.escaped false) (node_within n (cond x (pair path b l ∷ []) [])) no_entries)) (is_itself s.segment)

adds_below : (n : ℕ) (s : ParsedSegment) (path : List ParsedSegment) (b : Bool) (l : Leaf) (ps : List Pair) → is_same_segment (Str []) s.segment ≡ false → Permitted ps → ((qs : List Pair) → qs ≡ under s.segment ps → Goes n qs (pair path b l) (add path b l (node_within n qs)))
    → Goes (suc n) ps (pair (s ∷ path) b l) (add_below s (add path b l) (node_within (suc n) ps))
adds_below n s path b l [] m p ih = by (add path b l uninitialized) (subst (λ t. Goes n [] (pair path b l) (add path b l t)) (node_nothing n) (ih [] refl))
  where
    by : (o : Option Tree) → Goes n [] (pair path b l) o → Goes (suc n) [] (pair (s ∷ path) b l) (option_map (λ u. mapping (entry s.segment s.escaped u no_entries)) o)
    by None f = λ q. f (permitted_below [] s path b l q)
    by (Some t) f = (below_permitted [] s path b l p refl f.0, ap (λ u. mapping (entry s.segment s.escaped u no_entries)) f.1 ∙ sym (adds_one n s path b l))
adds_below n s path b l (q ∷ qs) m p ih = by (list_any is_below (map event (q ∷ qs))) refl
  where
    ps : List Pair
    ps = q ∷ qs

    made : (o : Option Tree) → add path b l (node_within n (under s.segment (filled (q ∷ qs)))) ≡ o → Goes n (under s.segment (q ∷ qs)) (pair path b l) o → list_any is_below (map event (q ∷ qs)) ≡ true
        → Goes (suc n) (q ∷ qs) (pair (s ∷ path) b l) (option_map mapping (option_map (λ t. entries_within n (filled (q ∷ qs) ++ pair (s ∷ path) b l ∷ [])) o))
    made None e f a = λ w. f (permitted_below (q ∷ qs) s path b l w)
    made (Some t) e f a =
        let h = begun (map event (q ∷ qs)) a (p []) in (
          below_permitted (q ∷ qs) s path b l p (still_permitted (map event (q ∷ qs)) below h.0 h.1) f.0,
          ap (λ (rs : List Pair). mapping (entries_within n rs)) (sym (filled_push (q ∷ qs) (pair (s ∷ path) b l))) ∙ sym (node_mapping n ((q ∷ qs) ++ pair (s ∷ path) b l ∷ []) (any_after (q ∷ qs) (pair (s ∷ path) b l) a)),
        )

    same : (t : Tree) (o : Option Tree) → Goes n (under s.segment (q ∷ qs)) (pair path b l) o → o ≡ Some t → t ≡ node_within n (under s.segment (filled (q ∷ qs)) ++ pair path b l ∷ [])
    same t None f e = absurd (none-some t e)
    same t (Some u) f e = sym (same_Some u t e) ∙ f.1 ∙ ap (λ (rs : List Pair). node_within n (rs ++ pair path b l ∷ [])) (sym (under_filled s.segment (q ∷ qs) m))

    by : (x : Bool) → list_any is_below (map event (q ∷ qs)) ≡ x → Goes (suc n) (q ∷ qs) (pair (s ∷ path) b l) (add_below s (add path b l) (node_within (suc n) (q ∷ qs)))
    by true a =
        let goes = ih (under s.segment (q ∷ qs)) refl in
        let o = add path b l (node_within n (under s.segment (filled (q ∷ qs)))) in
        let goes : Goes n (under s.segment (q ∷ qs)) (pair path b l) o = subst (λ (rs : List Pair). Goes n (under s.segment (q ∷ qs)) (pair path b l) (add path b l (node_within n rs))) (sym (under_filled s.segment (q ∷ qs) m)) goes in
        subst (λ (x : Option Tree). Goes (suc n) (q ∷ qs) (pair (s ∷ path) b l) x)
        (sym (ap (add_below s (add path b l)) (node_mapping n (q ∷ qs) a) ∙ ap (option_map mapping) (update_pairs n (filled (q ∷ qs)) s path b l (add path b l) o refl (λ t d. same t o goes d))))
        (made o refl goes a)
    by false a = subst (λ (x : Option Tree). Goes (suc n) (q ∷ qs) (pair (s ∷ path) b l) x) (sym (ap (add_below s (add path b l)) (node_is_of_leaves (suc n) (q ∷ qs) a) ∙ below_leaves s (add path b l) (event q) (map event qs) a))
        (λ w. let v = sym (w []) ∙ root_history (q ∷ qs) (pair (s ∷ path) b l) ∙ none_begun (map event qs) (event q) [] a in cc)

-- One pair more: it is added in place exactly where all histories stay permitted, and the tree is then that of the pairs with it.
pub adds : (path : List ParsedSegment) (b : Bool) (l : Leaf) (n : ℕ) (ps : List Pair) → longest ps ≤ n → length path ≤ n → NoneEmpty ps → NoEmpty path → Permitted ps → Goes n ps (pair path b l) (add path b l (node_within n ps))
adds [] b l n ps w v m k p = by n w (list_any is_below (map event ps)) refl
  where
    by : (n : ℕ) → longest ps ≤ n → (x : Bool) → list_any is_below (map event ps) ≡ x → Goes n ps (pair [] b l) (add_here b l (node_within n ps))
    by n w false e = adds_to_leaves n ps b l p e
    by zero w true e = let v = sym e ∙ none_below ps w in cc
    by (suc n) w true e = adds_map n ps b l m p e
adds (s ∷ path) b l zero ps w v m k p = absurd (omega arith)
adds (s ∷ path) b l (suc n) ps w v m k p = adds_below n s path b l ps k.0 p
    (λ qs e. subst (λ (rs : List Pair). Goes n rs (pair path b l) (add path b l (node_within n rs))) (sym e)
    (adds path b l n (under s.segment ps) (longest_under s.segment n ps w) (omega arith) (none_empty_under s.segment ps m) k.1 (permitted_under ps s.segment p)))
