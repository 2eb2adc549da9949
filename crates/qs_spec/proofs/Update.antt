-- The entries of pairs, updated in place at one key.
use Rattle.std.proofs.Common.{◌≡◌, ℕ, zero, suc, Bool, true, false, cond, ◌||◌, List, [], ◌∷◌, ◌++◌, refl, sym, ap, ap₂, ◌∙◌, subst, Option, Some, None, option_map, Ordering, Less, Equal, Greater, is_eq, append-nil}
use Rattle.std.specs.List.{list_any, AllByRecursion}
use Rattle.qs_spec.specs.Segment.{Segment, ParsedSegment}
use Rattle.qs_spec.specs.Leaf.{Leaf}
use Rattle.qs_spec.specs.Grammar.{Pair}
use Rattle.qs_spec.specs.History.{under}
use Rattle.qs_spec.specs.Tree.{heads, put, head_escaped, entries_of, node_within, Tree, Entries}
use Rattle.qs_spec.specs.Segment.{compare_segments, is_same_segment}
use Rattle.qs_spec.specs.Tree.Tree.{uninitialized}
use Rattle.qs_spec.specs.Tree.Entries.{entry, no_entries}
use Rattle.qs_spec.specs.internal.InPlace.{update_by, update}
use Rattle.qs_spec.proofs.Order.{exact_segment, put_lt, put_eq, put_gt, not_above, not_below, is_itself}
use Rattle.qs_spec.proofs.TreeOf.{none_under}
use Rattle.qs_spec.proofs.Leaves.{Ascends, ascends_heads, all_above}
use Rattle.qs_spec.proofs.OneMore.{pair, under_push, heads_push, escaped_push, escaped_there, escaped_new}

-- entries that agree at the keys
entries_agree : (x : Segment) (m n : Segment → Bool) (f g : Segment → Tree) → ((k : Segment) → is_same_segment k x ≡ false → (n k ≡ m k) × (g k ≡ f k)) → (ks : List Segment) → AllByRecursion (λ k. compare_segments x k ≡ Less) ks → entries_of m f ks ≡ entries_of n g ks
entries_agree x m n f g h [] a = refl
entries_agree x m n f g h (k ∷ ks) a =
    let other = h k (not_above x k a.0) in
    ap₂ (λ (b : Bool) (t : Tree). entry k b t (entries_of m f ks)) (sym other.0) (sym other.1) ∙ ap (entry k (n k) (g k)) (entries_agree x m n f g h ks a.1)

to_constant : {A B : Type 0} (f : A → B) (c : B) (o : Option A) → ((a : A) → o ≡ Some a → f a ≡ c) → option_map f o ≡ option_map (λ a. c) o
to_constant f c None h = refl
to_constant f c (Some a) h = ap Some (h a refl)

twice_mapped : {A B C : Type 0} (f : B → C) (b : B) (o : Option A) → option_map f (option_map (λ a. b) o) ≡ option_map (λ a. f b) o
twice_mapped f b None = refl
twice_mapped f b (Some a) = refl

not_among : (x : Segment) (ks : List Segment) → AllByRecursion (λ k. compare_segments x k ≡ Less) ks → list_any (is_same_segment x) ks ≡ false
not_among x [] h = refl
not_among x (k ∷ ks) h = ap₂ (λ a b. a || b) (ap is_eq h.0) (not_among x ks h.1)

module _ (s : ParsedSegment) (g : Tree → Option Tree) (m n : Segment → Bool) (f h : Segment → Tree) (o : Option Tree)
    (others : (k : Segment) → is_same_segment k s.segment ≡ false → (n k ≡ m k) × (h k ≡ f k)) (made : g (f s.segment) ≡ o) (same : (t : Tree) → o ≡ Some t → t ≡ h s.segment) where
  update_entries : (ks : List Segment) → Ascends ks → (list_any (is_same_segment s.segment) ks ≡ true → n s.segment ≡ m s.segment) → (list_any (is_same_segment s.segment) ks ≡ false → (n s.segment ≡ s.escaped) × (f s.segment ≡ uninitialized))
      → update s g (entries_of m f ks) ≡ option_map (λ t. entries_of n h (put s.segment ks)) o
  update_entries [] a kept new =
      let w = new refl in
      ap (option_map (λ u. entry s.segment s.escaped u no_entries)) (ap g (sym w.1) ∙ made)
      ∙ to_constant _ _ o (λ t e. ap₂ (λ (b : Bool) (u : Tree). entry s.segment b u no_entries) (sym w.0) (same t e))
  update_entries (k ∷ ks) a kept new = by (update_entries ks a.1) (compare_segments s.segment k) refl
    where
      by : ((list_any (is_same_segment s.segment) ks ≡ true → n s.segment ≡ m s.segment) → (list_any (is_same_segment s.segment) ks ≡ false → (n s.segment ≡ s.escaped) × (f s.segment ≡ uninitialized)) → update s g (entries_of m f ks) ≡ option_map (λ t. entries_of n h (put s.segment ks)) o)
          → (d : Ordering) → compare_segments s.segment k ≡ d → update s g (entries_of m f (k ∷ ks)) ≡ option_map (λ t. entries_of n h (put s.segment (k ∷ ks))) o
      by more Less e =
          let above : AllByRecursion (λ z. compare_segments s.segment z ≡ Less) (k ∷ ks) = (e, all_above s.segment k ks e a.0) in
          let w = new (not_among s.segment (k ∷ ks) above) in
          ap (λ d. update_by d s g k (m k) (f k) (entries_of m f ks) (update s g (entries_of m f ks))) e
          ∙ ap (option_map (λ u. entry s.segment s.escaped u (entries_of m f (k ∷ ks)))) (ap g (sym w.1) ∙ made)
          ∙ to_constant _ _ o (λ t d. ap₂ (λ (b : Bool) (u : Tree). entry s.segment b u (entries_of m f (k ∷ ks))) (sym w.0) (same t d)
          ∙ ap (entry s.segment (n s.segment) (h s.segment)) (entries_agree s.segment m n f h others (k ∷ ks) above)
          ∙ ap (entries_of n h) (sym (put_lt s.segment k ks e)))
      by more Equal e =
          let one : s.segment ≡ k = exact_segment s.segment k e in
          let above : AllByRecursion (λ z. compare_segments s.segment z ≡ Less) ks = subst (λ w. AllByRecursion (λ z. compare_segments w z ≡ Less) ks) (sym one) a.0 in
          let keep : n s.segment ≡ m s.segment = kept (ap (λ b. b || list_any (is_same_segment s.segment) ks) (ap is_eq e)) in
          ap (λ d. update_by d s g k (m k) (f k) (entries_of m f ks) (update s g (entries_of m f ks))) e
          ∙ ap (option_map (λ u. entry k (m k) u (entries_of m f ks))) (ap (λ z. g (f z)) (sym one) ∙ made)
          ∙ to_constant _ _ o (λ t d. ap₂ (λ (b : Bool) (u : Tree). entry k b u (entries_of m f ks)) (sym (ap m one) ∙ sym keep ∙ ap n one) (same t d ∙ ap h one)
          ∙ ap (entry k (n k) (h k)) (entries_agree s.segment m n f h others ks above)
          ∙ ap (entries_of n h) (sym (put_eq s.segment k ks e)))
      by more Greater e =
          let other = others k (not_below s.segment k e) in
          let rest : list_any (is_same_segment s.segment) (k ∷ ks) ≡ list_any (is_same_segment s.segment) ks = ap (λ b. b || list_any (is_same_segment s.segment) ks) (ap is_eq e) in
          ap (λ d. update_by d s g k (m k) (f k) (entries_of m f ks) (update s g (entries_of m f ks))) e
          ∙ ap (option_map (entry k (m k) (f k))) (more (λ d. kept (rest ∙ d)) (λ d. new (rest ∙ d)))
          ∙ twice_mapped (entry k (m k) (f k)) (entries_of n h (put s.segment ks)) o
          ∙ ap (λ (x : Entries). option_map (λ t. x) o) (ap₂ (λ (b : Bool) (u : Tree). entry k b u (entries_of n h (put s.segment ks))) (sym other.0) (sym other.1) ∙ ap (entries_of n h) (sym (put_gt s.segment k ks e)))

abbrev pub entries_within : ℕ → List Pair → Entries
entries_within m qs = entries_of (λ k. head_escaped k qs) (λ k. node_within m (under k qs)) (heads qs)

pub node_nothing : (n : ℕ) → node_within n [] ≡ uninitialized
node_nothing zero = refl
node_nothing (suc n) = refl

pub under_same : (s : ParsedSegment) (ps : List Pair) (path : List ParsedSegment) (b : Bool) (l : Leaf) → under s.segment (ps ++ pair (s ∷ path) b l ∷ []) ≡ under s.segment ps ++ pair path b l ∷ []
under_same s ps path b l = under_push s.segment ps (pair (s ∷ path) b l) ∙ ap (λ x. under s.segment ps ++ cond x (pair path b l ∷ []) []) (is_itself s.segment)

pub under_other : (k : Segment) (s : ParsedSegment) (ps : List Pair) (path : List ParsedSegment) (b : Bool) (l : Leaf) → is_same_segment k s.segment ≡ false → under k (ps ++ pair (s ∷ path) b l ∷ []) ≡ under k ps
under_other k s ps path b l e = under_push k ps (pair (s ∷ path) b l) ∙ ap (λ x. under k ps ++ cond x (pair path b l ∷ []) []) e ∙ append-nil (under k ps)

-- the entries of pairs with one more
pub update_pairs : (n : ℕ) (qs : List Pair) (s : ParsedSegment) (path : List ParsedSegment) (b : Bool) (l : Leaf) (g : Tree → Option Tree) (o : Option Tree) → g (node_within n (under s.segment qs)) ≡ o
    → ((t : Tree) → o ≡ Some t → t ≡ node_within n (under s.segment qs ++ pair path b l ∷ [])) → update s g (entries_within n qs) ≡ option_map (λ t. entries_within n (qs ++ pair (s ∷ path) b l ∷ [])) o
update_pairs n qs s path b l g o e same =
    update_entries s g (λ k. head_escaped k qs) (λ k. head_escaped k (qs ++ pair (s ∷ path) b l ∷ [])) (λ k. node_within n (under k qs)) (λ k. node_within n (under k (qs ++ pair (s ∷ path) b l ∷ []))) o
    (λ k d. (escaped_push k qs s path b l d, ap (node_within n) (under_other k s qs path b l d)))
    e (λ t d. same t d ∙ ap (node_within n) (sym (under_same s qs path b l)))
    (heads qs) (ascends_heads qs) (λ d. escaped_there s.segment qs _ d) (λ d. (escaped_new s.segment qs s path b l d (is_itself s.segment), ap (node_within n) (none_under s.segment qs d) ∙ node_nothing n))
    ∙ ap (λ (ks : List Segment). option_map (λ t. entries_of (λ k. head_escaped k (qs ++ pair (s ∷ path) b l ∷ [])) (λ k. node_within n (under k (qs ++ pair (s ∷ path) b l ∷ []))) ks) o) (sym (heads_push qs s path b l))
