-- How many leaves there are at the keys of a node, and how deep maps nest: no deeper than the paths are long.
use Rattle.std.proofs.Common.{◌≡◌, ℕ, zero, suc, max, ◌+◌, ◌≤◌, ◌<◌, Bool, true, false, cond, ◌||◌, List, [], ◌∷◌, length, refl, sym, ap, ap₂, ◌∙◌, subst, arith, Ordering, Less, Equal, Greater, is_eq, length-append, suc-le-suc}
use Rattle.std.specs.List.{list_any, AllByRecursion}
use Rattle.std.specs.Ordering.{ordering_reverse}
use Rattle.qs_spec.specs.Segment.{Segment, ParsedSegment}
use Rattle.qs_spec.specs.Leaf.{Leaf}
use Rattle.qs_spec.specs.Token.{Token}
use Rattle.qs_spec.specs.Grammar.{Pair, IsPair, IsBrackets, ArePairs, root}
use Rattle.qs_spec.specs.History.{Event, event_of, events, is_below, is_push, under}
use Rattle.qs_spec.specs.Tree.{leaves_in, leaf_items, node_of_leaves, heads, put_head, put, filled, filled_path, head_escaped, entries_of, node_within, longest, Tree}
use Rattle.qs_spec.specs.Segment.{compare_segments, is_same_segment}
use Rattle.qs_spec.specs.History.Event.{assign, push, below}
use Rattle.qs_spec.specs.Holds.{leaf_count, items_leaf_count, entries_leaf_count, nesting, items_nesting, entries_nesting}
use Rattle.qs_spec.proofs.Order.{exact_segment, segments_total, put_lt, put_eq, put_gt}
use Rattle.qs_spec.proofs.TreeOf.{none_under}

-- each key is below those after it
abbrev pub Ascends : List Segment → Type 0
Ascends [] = Unit {0}
Ascends (x ∷ xs) = AllByRecursion (λ y. compare_segments x y ≡ Less) xs × Ascends xs

pub all_put : (P : Segment → Type 0) (x : Segment) (ks : List Segment) → P x → AllByRecursion P ks → AllByRecursion P (put x ks)
all_put P x [] p h = (p, tt)
all_put P x (y ∷ ks) p h = by (all_put P x ks p h.1) (compare_segments x y) refl
  where
    by : AllByRecursion P (put x ks) → (o : Ordering) → compare_segments x y ≡ o → AllByRecursion P (put x (y ∷ ks))
    by more Less e = subst (AllByRecursion P) (sym (put_lt x y ks e)) (p, h)
    by more Equal e = subst (AllByRecursion P) (sym (put_eq x y ks e)) h
    by more Greater e = subst (AllByRecursion P) (sym (put_gt x y ks e)) (h.0, more)

pub all_above : (x y : Segment) (ks : List Segment) → compare_segments x y ≡ Less → AllByRecursion (λ z. compare_segments y z ≡ Less) ks → AllByRecursion (λ z. compare_segments x z ≡ Less) ks
all_above x y [] e h = tt
all_above x y (z ∷ ks) e h = (segments_total.trans x y z e h.0, all_above x y ks e h.1)

ascends_put : (x : Segment) (ks : List Segment) → Ascends ks → Ascends (put x ks)
ascends_put x [] h = (tt, tt)
ascends_put x (y ∷ ks) h = by (ascends_put x ks h.1) (compare_segments x y) refl
  where
    by : Ascends (put x ks) → (o : Ordering) → compare_segments x y ≡ o → Ascends (put x (y ∷ ks))
    by more Less e = subst Ascends (sym (put_lt x y ks e)) ((e, all_above x y ks e h.0), h)
    by more Equal e = subst Ascends (sym (put_eq x y ks e)) h
    by more Greater e = subst Ascends (sym (put_gt x y ks e)) (all_put (λ z. compare_segments y z ≡ Less) x ks (segments_total.antisymm y x ∙ ap ordering_reverse e) h.0, more)

pub ascends_heads : (ps : List Pair) → Ascends (heads ps)
ascends_heads [] = tt
ascends_heads (p ∷ ps) = by p.path (ascends_heads ps)
  where
    by : (path : List ParsedSegment) → Ascends (heads ps) → Ascends (put_head path (heads ps))
    by [] h = h
    by (s ∷ path) h = ascends_put s.segment (heads ps) h

abbrev one_if : Bool → ℕ
one_if true = 1
one_if false = 0

abbrev total : (Segment → ℕ) → List Segment → ℕ
total f [] = 0
total f (k ∷ ks) = f k + total f ks

-- one more under x: each key counts the same but x, which counts one more
module _ (x : Segment) (f g : Segment → ℕ) (one : (k : Segment) → f k ≡ one_if (is_same_segment k x) + g k) where
  other : (y : Segment) → compare_segments x y ≡ Less → f y ≡ g y
  other y e = one y ∙ ap (λ o. one_if (is_eq o) + g y) (segments_total.antisymm y x ∙ ap ordering_reverse e) ∙ omega arith

  lower : (y : Segment) → compare_segments x y ≡ Greater → f y ≡ g y
  lower y e = one y ∙ ap (λ o. one_if (is_eq o) + g y) (segments_total.antisymm y x ∙ ap ordering_reverse e) ∙ omega arith

  others : (ks : List Segment) → AllByRecursion (λ y. compare_segments x y ≡ Less) ks → total f ks ≡ total g ks
  others [] h = refl
  others (y ∷ ks) h = ap₂ (λ a b. a + b) (other y h.0) (others ks h.1)

  not_among : (ks : List Segment) → AllByRecursion (λ y. compare_segments x y ≡ Less) ks → list_any (is_same_segment x) ks ≡ false
  not_among [] h = refl
  not_among (y ∷ ks) h = ap₂ (λ a b. a || b) (ap is_eq h.0) (not_among ks h.1)

  itself : f x ≡ suc (g x)
  itself = one x ∙ ap (λ o. one_if (is_eq o) + g x) (tied x) ∙ omega arith
    where
      turn : (o : Ordering) → o ≡ ordering_reverse o → o ≡ Equal
      turn Less e = cc
      turn Equal e = refl
      turn Greater e = cc

      tied : (x : Segment) → compare_segments x x ≡ Equal
      tied x = turn (compare_segments x x) (segments_total.antisymm x x)

  one_more : (ks : List Segment) → Ascends ks → (list_any (is_same_segment x) ks ≡ false → g x ≡ 0) → total f (put x ks) ≡ suc (total g ks)
  one_more [] h none = omega (arith, itself, none refl)
  one_more (y ∷ ks) h none = by (λ n. one_more ks h.1 n) (compare_segments x y) refl
    where
      by : ((list_any (is_same_segment x) ks ≡ false → g x ≡ 0) → total f (put x ks) ≡ suc (total g ks)) → (o : Ordering) → compare_segments x y ≡ o → total f (put x (y ∷ ks)) ≡ suc (total g (y ∷ ks))
      by more Less e =
          let above : AllByRecursion (λ z. compare_segments x z ≡ Less) (y ∷ ks) = (e, all_above x y ks e h.0) in
          ap (total f) (put_lt x y ks e) ∙ omega (arith, itself, others (y ∷ ks) above, none (not_among (y ∷ ks) above))
      by more Equal e =
          let same : x ≡ y = exact_segment x y e in
          let above : AllByRecursion (λ z. compare_segments x z ≡ Less) ks = subst (λ w. AllByRecursion (λ z. compare_segments w z ≡ Less) ks) (sym same) h.0 in
          ap (total f) (put_eq x y ks e) ∙ omega (arith, itself, others ks above, ap f same, ap g same)
      by more Greater e =
          ap (total f) (put_gt x y ks e) ∙ omega (arith, lower y e, more (λ n. none (ap₂ (λ a b. a || b) (ap is_eq e) n)))

-- the pairs all go on below
abbrev pub AllLonger : List Pair → Type 0
AllLonger [] = Unit {0}
AllLonger (p ∷ ps) = (0 < length p.path) × AllLonger ps

pub longer_filled : (ps : List Pair) → list_any is_push (events ps []) ≡ false → AllLonger (filled ps)
longer_filled [] e = tt
longer_filled (p ∷ ps) e = by p.path p.push e (longer_filled ps)
  where
    by : (path : List ParsedSegment) (b : Bool) → (is_push (event_of path b p.leaf) || list_any is_push (events ps [])) ≡ false → (list_any is_push (events ps []) ≡ false → AllLonger (filled ps)) → (0 < length (filled_path path b)) × AllLonger (filled ps)
    by [] true e h = cc
    by [] false e h = (omega arith, h e)
    by (s ∷ path) b e h = (omega arith, h e)

pub length_filled : (ps : List Pair) → length (filled ps) ≡ length ps
length_filled [] = refl
length_filled (p ∷ ps) = ap suc (length_filled ps)

pub longest_filled : (n : ℕ) (ps : List Pair) → longest ps ≤ suc n → longest (filled ps) ≤ suc n
longest_filled n [] l = l
longest_filled n (p ∷ ps) l = by p.path p.push l (longest_filled n ps)
  where
    by : (path : List ParsedSegment) (b : Bool) → max (length path) (longest ps) ≤ suc n → (longest ps ≤ suc n → longest (filled ps) ≤ suc n) → max (length (filled_path path b)) (longest (filled ps)) ≤ suc n
    by [] true l h = let m : longest (filled ps) ≤ suc n = h (omega arith) in omega arith
    by [] false l h = let m : longest (filled ps) ≤ suc n = h (omega arith) in omega arith
    by (s ∷ path) b l h = let m : longest (filled ps) ≤ suc n = h (omega arith) in omega arith

-- the pairs under each key together are all pairs
pub counted : (ps : List Pair) → AllLonger ps → total (λ k. length (under k ps)) (heads ps) ≡ length ps
counted [] h = refl
counted (p ∷ ps) h = by p.path h.0 (counted ps h.1)
  where
    at_key : (s : ParsedSegment) (path : List ParsedSegment) (k : Segment) → length (under k (record p { path = s ∷ path } ∷ ps)) ≡ one_if (is_same_segment k s.segment) + length (under k ps)
    at_key s path k = each (is_same_segment k s.segment)
      where
        each : (b : Bool) → length (cond b (record p { path = path } ∷ under k ps) (under k ps)) ≡ one_if b + length (under k ps)
        each true = omega arith
        each false = omega arith

    by : (path : List ParsedSegment) → 0 < length path → total (λ k. length (under k ps)) (heads ps) ≡ length ps → total (λ k. length (under k (record p { path = path } ∷ ps))) (put_head path (heads ps)) ≡ suc (length ps)
    by [] l e = absurd (omega arith)
    by (s ∷ path) l e =
        one_more s.segment (λ k. length (under k (record p { path = s ∷ path } ∷ ps))) (λ k. length (under k ps)) (at_key s path) (heads ps) (ascends_heads ps) (λ n. ap length (none_under s.segment ps n))
        ∙ ap suc e

pub entries_counted : (m : Segment → Bool) (f : Segment → Tree) (g : Segment → ℕ) → ((k : Segment) → leaf_count (f k) ≡ g k) → (ks : List Segment) → entries_leaf_count (entries_of m f ks) ≡ total g ks
entries_counted m f g h [] = refl
entries_counted m f g h (k ∷ ks) = ap₂ (λ a b. a + b) (h k) (entries_counted m f g h ks)

leaves_counted : (h : List Event) → list_any is_below h ≡ false → length (leaves_in h) ≡ length h
leaves_counted [] e = refl
leaves_counted (assign l ∷ h) e = ap suc (leaves_counted h e)
leaves_counted (push l ∷ h) e = ap suc (leaves_counted h e)
leaves_counted (below ∷ h) e = cc

items_counted : (ls : List Leaf) → items_leaf_count (leaf_items ls) ≡ length ls
items_counted [] = refl
items_counted (l ∷ ls) = omega (arith, items_counted ls)

pub leaves_counted_all : (h : List Event) → list_any is_below h ≡ false → leaf_count (node_of_leaves h) ≡ length h
leaves_counted_all [] e = refl
leaves_counted_all (assign l ∷ []) e = refl
leaves_counted_all (assign l ∷ d ∷ h) e = items_counted (leaves_in (assign l ∷ d ∷ h)) ∙ leaves_counted (assign l ∷ d ∷ h) e
leaves_counted_all (push l ∷ h) e = items_counted (leaves_in (push l ∷ h)) ∙ leaves_counted (push l ∷ h) e
leaves_counted_all (below ∷ h) e = cc

pub none_below : (ps : List Pair) → longest ps ≤ 0 → list_any is_below (events ps []) ≡ false
none_below [] l = refl
none_below (p ∷ ps) l = by p.path p.push l (none_below ps)
  where
    by : (path : List ParsedSegment) (b : Bool) → max (length path) (longest ps) ≤ 0 → (longest ps ≤ 0 → list_any is_below (events ps []) ≡ false) → list_any is_below (event_of path b p.leaf ∷ events ps []) ≡ false
    by [] true l h = h (omega arith)
    by [] false l h = h (omega arith)
    by (s ∷ path) b l h = absurd (omega arith)

-- maps nest no deeper than paths are long
entries_nest : (n : ℕ) (m : Segment → Bool) (f : Segment → Tree) → ((k : Segment) → nesting (f k) ≤ n) → (ks : List Segment) → entries_nesting (entries_of m f ks) ≤ n
entries_nest n m f h [] = omega arith
entries_nest n m f h (k ∷ ks) = omega (arith, h k, entries_nest n m f h ks)

items_nest : (ls : List Leaf) → items_nesting (leaf_items ls) ≡ 0
items_nest [] = refl
items_nest (l ∷ ls) = omega (arith, items_nest ls)

node_of_leaves_nest : (h : List Event) → nesting (node_of_leaves h) ≡ 0
node_of_leaves_nest [] = refl
node_of_leaves_nest (assign l ∷ []) = refl
node_of_leaves_nest (assign l ∷ d ∷ h) = items_nest (leaves_in (assign l ∷ d ∷ h))
node_of_leaves_nest (push l ∷ h) = items_nest (leaves_in (push l ∷ h))
node_of_leaves_nest (below ∷ h) = items_nest (leaves_in (below ∷ h))

pub nesting_within : (n : ℕ) (ps : List Pair) → nesting (node_within n ps) ≤ n
nesting_within zero ps = omega (arith, node_of_leaves_nest (events ps []))
nesting_within (suc n) ps = by (list_any is_below (events ps [])) (entries_nest n (λ k. head_escaped k (filled ps)) (λ k. node_within n (under k (filled ps))) (λ k. nesting_within n (under k (filled ps))) (heads (filled ps)))
  where
    by : (b : Bool) → entries_nesting (entries_of (λ k. head_escaped k (filled ps)) (λ k. node_within n (under k (filled ps))) (heads (filled ps))) ≤ n
        → nesting (cond b (Tree.mapping (entries_of (λ k. head_escaped k (filled ps)) (λ k. node_within n (under k (filled ps))) (heads (filled ps)))) (node_of_leaves (events ps []))) ≤ suc n
    by true l = suc-le-suc l
    by false l = omega (arith, node_of_leaves_nest (events ps []))

-- no path is longer than the depth and two
root_short : (key : List Token) → length (root key) ≤ 1
root_short [] = omega arith
root_short (t ∷ key) = omega arith

brackets_short : {room : ℕ} {path : List ParsedSegment} {bracket : List ℕ} {ts : List Token} {p : Pair} → IsBrackets room path bracket ts p → length p.path ≤ length path + room + 1
brackets_short (IsBrackets.push e v) = omega arith
brackets_short (IsBrackets.segment {path = path} s t run value r e v) = omega (arith, length-append {A = ParsedSegment})
brackets_short (IsBrackets.more {path = path} s t u run rest r e d b) = omega (arith, length-append {A = ParsedSegment}, brackets_short b)
brackets_short (IsBrackets.last {path = path} t run value e r v) = omega (arith, length-append {A = ParsedSegment})

pair_short : {depth : ℕ} {ts : List Token} {p : Pair} → IsPair depth ts p → length p.path ≤ depth + 2
pair_short (IsPair.name {t} {key} r) = omega arith
pair_short (IsPair.value t key value r v) = omega (arith, root_short key)
pair_short (IsPair.brackets t key more r o d b) = omega (arith, root_short key, brackets_short b)

pub pairs_short : {depth : ℕ} {ts : List Token} {ps : List Pair} → ArePairs depth ts ps → longest ps ≤ depth + 2
pairs_short ArePairs.none = omega arith
pairs_short (ArePairs.amp e h) = pairs_short h
pairs_short (ArePairs.pair front rest p e h) = omega (arith, pair_short p, pairs_short h)
