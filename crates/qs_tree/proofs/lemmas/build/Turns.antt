-- What a step of adding a pair leaves.
use Rattle.qs_tree.proofs.Common.{◌≡◌, Bool, false, List, ◌∷◌, Option, Some, None, option_map, option_and_then, Result, Ok, Err, Ordering, Less, Equal, Greater, refl, sym, ap, subst, ◌∙◌, same_Some, IsErrAnd, Segment, ParsedSegment, compare_segments, Leaf, Tree, Entries, empty_segment, mapping, uninitialized, no_entries, entry, update, update_by, add_below, add_to_leaves, add_here, add, segments_total, AddError, value_at_key, IsBefore, AreOrdered, child, AddGives, IsRejected, entries_below}
use Rattle.qs_tree.proofs.lemmas.tree.Keys.{mapped_twice}

pub gives_err : {A B : Type 0} (view : A → B) (expected : Option B) (r : Result A AddError) (e : AddError) (Q : AddError → Type 0)
    → IsErrAnd r Q → ((y : AddError) → Q y → y ≡ e) → IsRejected expected e → AddGives view expected r
gives_err view expected (Ok a) e Q h same rejected = absurd h
gives_err view expected (Err y) e Q h same rejected = subst (IsRejected expected) (sym (same y h)) rejected

pub rejected_too : {B C : Type 0} (expected : Option B) (expected' : Option C) (e : AddError) → (expected ≡ None → expected' ≡ None) → IsRejected expected e → IsRejected expected' e
rejected_too expected expected' e none h = λ other. none (h other)

-- what is done at a segment is done to the node that is there, which is put back
module _ (s : ParsedSegment) (f : Tree → Option Tree) where
  abbrev put_back : Entries → Tree → Option Entries
  put_back es u = update s (λ _. Some u) es

  missing : (k : Segment) (es : Entries) → compare_segments s.segment k ≡ Less → IsBefore k es → value_at_key s.segment es ≡ None
  missing k no_entries less h = refl
  missing k (entry l m t es) less h = rw (segments_total.trans s.segment k l less h.0) (missing k es less h.1)

  through : {A B C : Type 0} (g : B → C) (h : A → Option B) (o : Option A) → option_map g (option_and_then h o) ≡ option_and_then (λ a. option_map g (h a)) o
  through g h None = refl
  through g h (Some a) = refl

  at_once : {A B : Type 0} (g : A → B) (o : Option A) → option_map g o ≡ option_and_then (λ a. Some (g a)) o
  at_once g None = refl
  at_once g (Some a) = refl

  pub updated : (es : Entries) → AreOrdered es → update s f es ≡ option_and_then (put_back es) (f (child s.segment es))
  updated no_entries h = at_once (λ u. entry s.segment s.escaped u no_entries) (f uninitialized)
  updated (entry k m t es) h = by (updated es h.1) (compare_segments s.segment k) refl
    where
      by : update s f es ≡ option_and_then (put_back es) (f (child s.segment es)) → (o : Ordering) → compare_segments s.segment k ≡ o
          → update_by o s f k m t es (update s f es) ≡ option_and_then (λ u. update_by o s (λ _. Some u) k m t es (put_back es u)) (f (child s.segment (entry k m t es)))
      by more Less d = rw (d, missing k es d h.0) (at_once (λ u. entry s.segment s.escaped u (entry k m t es)) (f uninitialized))
      by more Equal d = rw d (at_once (λ u. entry k m u es) (f t))
      by more Greater d = rw (d, more) (through (entry k m t) (put_back es) (f (child s.segment es)))

  module _ (es : Entries) (ordered : AreOrdered es) (x : Tree) (there : x ≡ child s.segment es) where
    pub put_there : (kept new : Entries) (u : Tree) → f x ≡ Some u → ((u : Tree) → update s (λ _. Some u) kept ≡ update s (λ _. Some u) es) → update s (λ _. Some u) kept ≡ Some new → update s f es ≡ Some new
    put_there kept new u step same put = updated es ordered ∙ ap (λ t. option_and_then (put_back es) (f t)) (sym there) ∙ ap (option_and_then (put_back es)) step ∙ sym (same u) ∙ put

    pub rejected_there : f x ≡ None → update s f es ≡ None
    rejected_there step = updated es ordered ∙ ap (λ t. option_and_then (put_back es) (f t)) (sym there) ∙ ap (option_and_then (put_back es)) step

-- one level down from a node that is a map or becomes one
pub one_below : (s : ParsedSegment) (f : Tree → Option Tree) (t : Tree) (es : Entries) → entries_below t ≡ Some es → add_below s f t ≡ option_map mapping (update s f es)
one_below s f (mapping ms) es is = rw (same_Some ms es is)
one_below s f uninitialized es is = rw (← same_Some no_entries es is) (mapped_twice (λ u. entry s.segment s.escaped u no_entries) mapping (f uninitialized))
one_below s f t es is = cc

-- what is done below a map
pub below_map : (s : ParsedSegment) (rest : List ParsedSegment) (push : Bool) (l : Leaf) (es new : Entries) (r : Result (Unit {0}) AddError)
    → AddGives (λ _. new) (update s (add rest push l) es) r → AddGives (λ _. mapping new) (add (s ∷ rest) push l (mapping es)) r
below_map s rest push l es new (Ok a) h = ap (option_map mapping) h
below_map s rest push l es new (Err e) h = rejected_too _ _ e (λ none. ap (option_map mapping) none) h

-- what is done at a map's empty text
pub at_map : (l : Leaf) (es new : Entries) (r : Result (Unit {0}) AddError) → AddGives (λ _. new) (update empty_segment (add_to_leaves false l) es) r → AddGives (λ _. mapping new) (add_here false l (mapping es)) r
at_map l es new (Ok a) h = ap (option_map mapping) h
at_map l es new (Err e) h = rejected_too _ _ e (λ none. ap (option_map mapping) none) h
