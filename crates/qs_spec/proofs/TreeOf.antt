-- A function that computes the tree of an input, or none; it is the one tree that the definition gives.
use Rattle.std.proofs.Common.{◌≡◌, ℕ, zero, suc, max, ◌≤◌, Bool, true, false, cond, ◌&&◌, ◌||◌, List, [], ◌∷◌, length, refl, sym, ap, ap₂, ◌∙◌, arith, Option, Some, None, Ordering, Less, Equal, Greater, is_eq, le_refl, if◌then◌else◌}
use Rattle.std.specs.List.{list_all, list_any}
use Rattle.std.proofs.lemmas.Option.{none-some, same_Some}
use Rattle.qs_spec.specs.Segment.{Segment, ParsedSegment}
use Rattle.qs_spec.specs.Token.{tokens}
use Rattle.qs_spec.specs.Leaf.Leaf.{NoValue}
use Rattle.qs_spec.specs.Grammar.{Pair}
use Rattle.qs_spec.specs.History.{events, under, permitted}
use Rattle.qs_spec.specs.Tree.{heads, put_head, put, node, longest, Tree, IsTree}
use Rattle.qs_spec.specs.Segment.{compare_segments, is_same_segment}
use Rattle.qs_spec.proofs.Order.{exact_segment, put_lt, put_eq, put_gt}
use Rattle.qs_spec.specs.internal.Parsing.{parsed_pairs}
use Rattle.qs_spec.proofs.RelatedIsParsed.{are_pairs, found_pairs}
use Rattle.qs_spec.proofs.Booleans.{and_both, or_both}

pub same_of : (o : Ordering) → is_eq o ≡ true → o ≡ Equal
same_of Less e = cc
same_of Equal e = refl
same_of Greater e = cc

pub same_segment : (k l : Segment) → is_same_segment k l ≡ true → k ≡ l
same_segment k l e = exact_segment k l (same_of (compare_segments k l) e)

-- how deep the histories are looked at
abbrev pub all_permitted : ℕ → List Pair → Bool
all_permitted zero ps = permitted (events ps [])
all_permitted (suc n) ps = permitted (events ps []) && list_all (λ k. all_permitted n (under k ps)) (heads ps)

abbrev pub tree_of_pairs : Option (List Pair) → Option Tree
tree_of_pairs None = None
tree_of_pairs (Some ps) = if all_permitted (longest ps) ps then Some (node ps) else None

abbrev pub tree_of : Bool → ℕ → List ℕ → Option Tree
tree_of is_form depth [] = Some (Tree.leaf NoValue)
tree_of is_form depth (b ∷ bytes) = tree_of_pairs (parsed_pairs depth (tokens is_form (b ∷ bytes)))

all_of : {A : Type 0} (f : A → Bool) (ks : List A) → ((k : A) → f k ≡ true) → list_all f ks ≡ true
all_of f [] h = refl
all_of f (k ∷ ks) h = ap (λ b. b && list_all f ks) (h k) ∙ all_of f ks h

all_at : (f : Segment → Bool) (k : Segment) (ks : List Segment) → list_all f ks ≡ true → list_any (is_same_segment k) ks ≡ true → f k ≡ true
all_at f k [] h e = cc
all_at f k (x ∷ ks) h e = by (all_at f k ks) (and_both (f x) (list_all f ks) h) (is_same_segment k x) refl
  where
    by : (list_all f ks ≡ true → list_any (is_same_segment k) ks ≡ true → f k ≡ true) → (f x ≡ true) × (list_all f ks ≡ true) → (b : Bool) → is_same_segment k x ≡ b → f k ≡ true
    by rest h true d = ap f (same_segment k x d) ∙ h.0
    by rest h false d = rest h.1 (sym (ap (λ b. b || list_any (is_same_segment k) ks) d) ∙ e)

-- a key that is put in is there, and so are the others
pub any_put : (k x : Segment) (ks : List Segment) → list_any (is_same_segment k) (put x ks) ≡ (is_same_segment k x || list_any (is_same_segment k) ks)
any_put k x [] = refl
any_put k x (y ∷ ks) = by (any_put k x ks) (compare_segments x y) refl
  where
    swap : (a b c : Bool) → (a || (b || c)) ≡ (b || (a || c))
    swap true true c = refl
    swap true false c = refl
    swap false b c = refl

    twice : (a c : Bool) → (a || c) ≡ (a || (a || c))
    twice true c = refl
    twice false c = refl

    by : list_any (is_same_segment k) (put x ks) ≡ (is_same_segment k x || list_any (is_same_segment k) ks) → (o : Ordering) → compare_segments x y ≡ o → list_any (is_same_segment k) (put x (y ∷ ks)) ≡ (is_same_segment k x || (is_same_segment k y || list_any (is_same_segment k) ks))
    by h Less e = ap (list_any (is_same_segment k)) (put_lt x y ks e)
    by h Equal e = ap (list_any (is_same_segment k)) (put_eq x y ks e) ∙ twice (is_same_segment k y) _ ∙ ap (λ z. is_same_segment k z || (is_same_segment k y || list_any (is_same_segment k) ks)) (sym (exact_segment x y e))
    by h Greater e = ap (list_any (is_same_segment k)) (put_gt x y ks e) ∙ ap (λ b. is_same_segment k y || b) h ∙ swap (is_same_segment k y) (is_same_segment k x) _

-- no pair is under what is no key
pub none_under : (k : Segment) (ps : List Pair) → list_any (is_same_segment k) (heads ps) ≡ false → under k ps ≡ []
none_under k [] e = refl
none_under k (p ∷ ps) e = by p.path e (none_under k ps)
  where
    by : (path : List ParsedSegment) → list_any (is_same_segment k) (put_head path (heads ps)) ≡ false → (list_any (is_same_segment k) (heads ps) ≡ false → under k ps ≡ []) → under k (record p { path = path } ∷ ps) ≡ []
    by [] e h = h e
    by (s ∷ path) e h =
        let parts = or_both (is_same_segment k s.segment) _ (sym (any_put k s.segment (heads ps)) ∙ e) in
        ap (λ b. cond b (record p { path = path } ∷ under k ps) (under k ps)) parts.0 ∙ h parts.1

-- below a segment paths are shorter
pub longest_under : (k : Segment) (n : ℕ) (ps : List Pair) → longest ps ≤ suc n → longest (under k ps) ≤ n
longest_under k n [] l = omega arith
longest_under k n (p ∷ ps) l = by p.path l (longest_under k n ps)
  where
    by : (path : List ParsedSegment) → max (length path) (longest ps) ≤ suc n → (longest ps ≤ suc n → longest (under k ps) ≤ n) → longest (under k (record p { path = path } ∷ ps)) ≤ n
    by [] l h = h (omega arith)
    by (s ∷ path) l h = each (is_same_segment k s.segment)
      where
        each : (b : Bool) → longest (cond b (record p { path = path } ∷ under k ps) (under k ps)) ≤ n
        each true = let m : longest (under k ps) ≤ n = h (omega arith) in omega arith
        each false = h (omega arith)

-- no path goes on where none is longer than nothing
pub none_longer : (k : Segment) (ps : List Pair) → longest ps ≤ 0 → under k ps ≡ []
none_longer k [] l = refl
none_longer k (p ∷ ps) l = by p.path l (none_longer k ps)
  where
    by : (path : List ParsedSegment) → max (length path) (longest ps) ≤ 0 → (longest ps ≤ 0 → under k ps ≡ []) → under k (record p { path = path } ∷ ps) ≡ []
    by [] l h = h (omega arith)
    by (s ∷ path) l h = absurd (omega arith)

at_nothing : (path : List Segment) → permitted (events [] path) ≡ true
at_nothing [] = refl
at_nothing (k ∷ path) = at_nothing path

each_of : (n : ℕ) (ps : List Pair) → longest ps ≤ n → all_permitted n ps ≡ true → (path : List Segment) → permitted (events ps path) ≡ true
each_of zero ps l h [] = h
each_of zero ps l h (k ∷ path) = ap (λ qs. permitted (events qs path)) (none_longer k ps l) ∙ at_nothing path
each_of (suc n) ps l h [] = (and_both _ _ h).0
each_of (suc n) ps l h (k ∷ path) = by (λ e. each_of n (under k ps) (longest_under k n ps l) e path) (list_any (is_same_segment k) (heads ps)) refl
  where
    by : (all_permitted n (under k ps) ≡ true → permitted (events (under k ps) path) ≡ true) → (b : Bool) → list_any (is_same_segment k) (heads ps) ≡ b → permitted (events (under k ps) path) ≡ true
    by below true e = below (all_at (λ k. all_permitted n (under k ps)) k (heads ps) (and_both _ _ h).1 e)
    by below false e = ap (λ qs. permitted (events qs path)) (none_under k ps e) ∙ at_nothing path

of_each : (n : ℕ) (ps : List Pair) → ((path : List Segment) → permitted (events ps path) ≡ true) → all_permitted n ps ≡ true
of_each zero ps h = h []
of_each (suc n) ps h = ap₂ (λ a b. a && b) (h []) (all_of (λ k. all_permitted n (under k ps)) (heads ps) (λ k. of_each n (under k ps) (λ path. h (k ∷ path))))

if_some : (b : Bool) (x y : Tree) → cond b (Some x) None ≡ Some y → (b ≡ true) × (x ≡ y)
if_some true x y e = (refl, same_Some x y e)
if_some false x y e = absurd (none-some y e)

-- the tree that the function gives is the tree
pub is_tree : (is_form : Bool) (depth : ℕ) (bytes : List ℕ) (t : Tree) → tree_of is_form depth bytes ≡ Some t → IsTree is_form depth bytes t
is_tree is_form depth [] t e = sym (same_Some (Tree.leaf NoValue) t e)
is_tree is_form depth (b ∷ bytes) t e = by (parsed_pairs depth (tokens is_form (b ∷ bytes))) refl e
  where
    by : (o : Option (List Pair)) → parsed_pairs depth (tokens is_form (b ∷ bytes)) ≡ o → tree_of_pairs o ≡ Some t → IsTree is_form depth (b ∷ bytes) t
    by None d e = absurd (none-some t e)
    by (Some ps) d e =
        let parts = if_some (all_permitted (longest ps) ps) (node ps) t e in
        (ps, record { grammar = are_pairs depth (tokens is_form (b ∷ bytes)) ps d; histories = each_of (longest ps) ps (le_refl (longest ps)) parts.0 }, sym parts.1)

-- it gives each tree
pub tree_found : (is_form : Bool) (depth : ℕ) (bytes : List ℕ) (t : Tree) → IsTree is_form depth bytes t → tree_of is_form depth bytes ≡ Some t
tree_found is_form depth [] t h = ap Some (sym h)
tree_found is_form depth (b ∷ bytes) t h =
    ap tree_of_pairs (found_pairs h.1.grammar)
    ∙ ap (λ x. cond x (Some (node h.0)) None) (of_each (longest h.0) h.0 h.1.histories)
    ∙ ap Some (sym h.2)

-- an input has at most one tree
pub one_tree : (is_form : Bool) (depth : ℕ) (bytes : List ℕ) (t u : Tree) → IsTree is_form depth bytes t → IsTree is_form depth bytes u → t ≡ u
one_tree is_form depth bytes t u h i = same_Some t u (sym (tree_found is_form depth bytes t h) ∙ tree_found is_form depth bytes u i)

-- where the function gives none, there is none
pub no_tree : (is_form : Bool) (depth : ℕ) (bytes : List ℕ) → tree_of is_form depth bytes ≡ None → (t : Tree) → IsTree is_form depth bytes t → ⊥
no_tree is_form depth bytes e t h = none-some t (sym e ∙ tree_found is_form depth bytes t h)
