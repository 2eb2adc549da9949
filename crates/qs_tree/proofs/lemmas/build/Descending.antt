-- What a step down a path, or back up, leaves.
use Rattle.qs_tree.proofs.Common.{◌≡◌, ℕ, zero, suc, Bool, true, List, [], ◌∷◌, ◌++◌, length, drop, take, slice_get, Option, Some, None, option_map, option_and_then, unwrap_or, refl, sym, ap, ap₂, ◌∙◌, none-some, same_Some, is_itself, is_eq, is_ne, false, same_segment, Ordering, Less, Equal, Greater, Segment, ParsedSegment, compare_segments, Leaf, Tree, Entries, mapping, uninitialized, entry, no_entries, update, update_by, add_below, add, Key, AddError, segment_of_key, parsed_segment_of_key, path_of, built_tree, Takes, IsRejected, entries_below, open_entries, put_back, put_all_back, whole_tree, IsOpen, AreKeys}
use Rattle.qs_tree.specs.declared.build.descent.ParentMap.{ParentMap}
use Rattle.qs_tree.proofs.lemmas.build.Turns.{updated, one_below}

-- the node at a key is taken out of the map that a node is or becomes
module _ (m : ParentMap) (before taken : Tree) (es : Entries) (is : entries_below before ≡ Some es) (takes : Takes m.key es taken (open_entries m.map)) where
  kept : (o : Option Tree) → option_map mapping (option_and_then (λ u. update (parsed_segment_of_key m.key) (λ _. Some u) es) o) ≡ option_and_then (put_back m) o
  kept None = refl
  kept (Some u) = ap (option_map mapping) (sym (takes.rest u))

  pub opened : IsOpen (parsed_segment_of_key m.key) before m taken
  opened f = one_below (parsed_segment_of_key m.key) f before es is ∙ ap (option_map mapping) (updated (parsed_segment_of_key m.key) f es takes.ordered)
      ∙ ap (λ t. option_map mapping (option_and_then (λ u. update (parsed_segment_of_key m.key) (λ _. Some u) es) (f t))) (sym takes.node) ∙ kept (f taken)

-- maps that are put back one after the other
itself : {A : Type 0} (o : Option A) → option_and_then (λ a. Some a) o ≡ o
itself None = refl
itself (Some a) = refl

joined : {A B C : Type 0} (g : B → Option C) (h : A → Option B) (o : Option A) → option_and_then g (option_and_then h o) ≡ option_and_then (λ a. option_and_then g (h a)) o
joined g h None = refl
joined g h (Some a) = refl

pub put_lowest : (ms : List ParentMap) (m : ParentMap) (t : Tree) → put_all_back (ms ++ m ∷ []) t ≡ option_and_then (put_all_back ms) (put_back m t)
put_lowest [] m t = sym (itself (put_back m t))
put_lowest (n ∷ ms) m t = ap (option_and_then (put_back n)) (put_lowest ms m t) ∙ joined (put_back n) (put_all_back ms) (put_back m t)

put_lowest_if : (ms : List ParentMap) (m : ParentMap) (o : Option Tree) → option_and_then (put_all_back ms) (option_and_then (put_back m) o) ≡ option_and_then (put_all_back (ms ++ m ∷ [])) o
put_lowest_if ms m None = refl
put_lowest_if ms m (Some t) = sym (put_lowest ms m t)

-- a node can be put at every key
pub put : (s : ParsedSegment) (t : Tree) (es : Entries) → (new : Entries) × (update s (λ _. Some t) es ≡ Some new)
put s t no_entries = (entry s.segment s.escaped t no_entries, refl)
put s t (entry k m u es) = by (compare_segments s.segment k) (put s t es)
  where
    by : (o : Ordering) → (new : Entries) × (update s (λ _. Some t) es ≡ Some new) → (new : Entries) × (update_by o s (λ _. Some t) k m u es (update s (λ _. Some t) es) ≡ Some new)
    by Less more = (entry s.segment s.escaped t (entry k m u es), refl)
    by Equal more = (entry k m t es, refl)
    by Greater more = (entry k m u more.0, ap (option_map (entry k m u)) more.1)

pub put_all : (ms : List ParentMap) (t : Tree) → put_all_back ms t ≡ Some (unwrap_or (put_all_back ms t) uninitialized)
put_all [] t = refl
put_all (m ∷ ms) t = by (put_all_back ms t) (put_all ms t)
  where
    by : (o : Option Tree) → o ≡ Some (unwrap_or o uninitialized) → option_and_then (put_back m) o ≡ Some (unwrap_or (option_and_then (put_back m) o) uninitialized)
    by None e = absurd (none-some _ e)
    by (Some u) e = let made = put (parsed_segment_of_key m.key) u (open_entries m.map) in rw made.1

-- what is done at a segment where a node was put back is done to that node
module _ (s k : ParsedSegment) (same : k.segment ≡ s.segment) (f : Tree → Option Tree) (inner : Tree) where
  itself_compared : (x : Segment) → compare_segments x x ≡ Equal
  itself_compared x = by (compare_segments x x) (is_itself x)
    where
      by : (o : Ordering) → is_eq o ≡ true → o ≡ Equal
      by Equal h = refl
      by Less h = cc
      by Greater h = cc

  at_once : {A B : Type 0} (g : A → B) (o : Option A) → option_map g o ≡ option_and_then (λ a. Some (g a)) o
  at_once g None = refl
  at_once g (Some a) = refl

  through : {A B C : Type 0} (g : B → C) (h : A → Option B) (o : Option A) → option_map g (option_and_then h o) ≡ option_and_then (λ a. option_map g (h a)) o
  through g h None = refl
  through g h (Some a) = refl

  pub again : (es new : Entries) → update k (λ _. Some inner) es ≡ Some new → update s f new ≡ option_and_then (λ t. update k (λ _. Some t) es) (f inner)
  again no_entries new is = rw (← same_Some _ new is, ← same, itself_compared k.segment) (at_once (λ t. entry k.segment k.escaped t no_entries) (f inner))
  again (entry l m u es) new is = by (again es) (compare_segments k.segment l) refl (update k (λ _. Some inner) es) refl is
    where
      by : ((made : Entries) → update k (λ _. Some inner) es ≡ Some made → update s f made ≡ option_and_then (λ t. update k (λ _. Some t) es) (f inner)) → (o : Ordering) → compare_segments k.segment l ≡ o
          → (more : Option Entries) → update k (λ _. Some inner) es ≡ more → update_by o k (λ _. Some inner) l m u es more ≡ Some new
          → update s f new ≡ option_and_then (λ t. update_by o k (λ _. Some t) l m u es (update k (λ _. Some t) es)) (f inner)
      by ih Less d more e p = rw (← same_Some _ new p, ← same, itself_compared k.segment) (at_once (λ t. entry k.segment k.escaped t (entry l m u es)) (f inner))
      by ih Equal d more e p = rw (← same_Some _ new p, ← same, d) (at_once (λ t. entry l m t es) (f inner))
      by ih Greater d None e p = cc
      by ih Greater d (Some made) e p = rw (← same_Some _ new p, ← same, d, ih made e) (through (entry l m u) (λ t. update k (λ _. Some t) es) (f inner))

-- a pair whose path begins with the keys of the frames goes below them
module _ (push : Bool) (l : Leaf) where
  fused : (s : ParsedSegment) (es : Entries) (o : Option Tree) → option_map mapping (option_and_then (λ t. update s (λ _. Some t) es) o) ≡ option_and_then (λ t. option_map mapping (update s (λ _. Some t) es)) o
  fused s es None = refl
  fused s es (Some t) = refl

  -- one frame
  below_frame : (m : ParentMap) (k : Key) (ks : List Key) (inner whole : Tree) → segment_of_key m.key ≡ segment_of_key k → put_back m inner ≡ Some whole
      → add (path_of (k ∷ ks)) push l whole ≡ option_and_then (put_back m) (add (path_of ks) push l inner)
  below_frame m k ks inner whole same is =
      let made = put (parsed_segment_of_key m.key) inner (open_entries m.map) in
      let all : mapping made.0 ≡ whole = same_Some _ whole (sym (ap (option_map mapping) made.1) ∙ is) in
      rw (← all)
      (ap (option_map mapping) (again (parsed_segment_of_key k) (parsed_segment_of_key m.key) same (add (path_of ks) push l) inner (open_entries m.map) made.0 made.1)
      ∙ fused (parsed_segment_of_key m.key) (open_entries m.map) (add (path_of ks) push l inner))

  pub resumes : (ms : List ParentMap) (end whole : Tree) (ks : List Key) → put_all_back ms end ≡ Some whole → AreKeys ms ks
      → add (path_of ks) push l whole ≡ option_and_then (put_all_back ms) (add (path_of (drop (length ms) ks)) push l end)
  resumes [] end whole ks is keys = rw (← same_Some end whole is) (sym (itself (add (path_of ks) push l end)))
  resumes (m ∷ ms) end whole [] is keys = absurd keys
  resumes (m ∷ ms) end whole (k ∷ ks) is keys =
      let inner = unwrap_or (put_all_back ms end) uninitialized in
      let below : put_all_back ms end ≡ Some inner = put_all ms end in
      below_frame m k ks inner whole keys.0 (sym (ap (option_and_then (put_back m)) below) ∙ is)
      ∙ ap (option_and_then (put_back m)) (resumes ms end inner ks below keys.1)
      ∙ joined (put_back m) (put_all_back ms) (add (path_of (drop (length ms) ks)) push l end)

-- a node without entries
pub nothing_below : (s : ParsedSegment) (f : Tree → Option Tree) (t : Tree) → entries_below t ≡ None → add_below s f t ≡ None
nothing_below s f (mapping es) none = cc
nothing_below s f uninitialized none = cc
nothing_below s f t none = refl

-- what is expected of the whole tree is what these frames make of a node
module _ (expected : Option Tree) (ms : List ParentMap) where
  -- one map more is open
  pub goes_on : (s : ParsedSegment) (f : Tree → Option Tree) (end : Tree) → expected ≡ option_and_then (put_all_back ms) (add_below s f end)
      → (m : ParentMap) (taken : Tree) → IsOpen s end m taken → expected ≡ option_and_then (put_all_back (ms ++ m ∷ [])) (f taken)
  goes_on s f end way m taken opens = way ∙ ap (option_and_then (put_all_back ms)) (opens f) ∙ put_lowest_if ms m (f taken)

  -- the pair is added
  pub added : (made : Option Tree) → expected ≡ option_and_then (put_all_back ms) made → (t : Tree) → made ≡ Some t → expected ≡ Some (unwrap_or (put_all_back ms t) uninitialized)
  added made way t is = way ∙ ap (option_and_then (put_all_back ms)) is ∙ put_all ms t

-- keys that don't differ
pub same_key : (k l : Segment) → is_ne (compare_segments k l) ≡ false → k ≡ l
same_key k l h = same_segment k l (by (compare_segments k l) h)
  where
    by : (o : Ordering) → is_ne o ≡ false → is_eq o ≡ true
    by Equal h = refl
    by Less h = cc
    by Greater h = cc

-- the frames that are left when one of the first is closed
pub front_left : (fs gs : List ParentMap) (m : ParentMap) → fs ++ m ∷ [] ≡ take (length (fs ++ m ∷ [])) gs → fs ≡ take (length fs) gs
front_left [] gs m e = refl
front_left (f ∷ fs) [] m e = cc
front_left (f ∷ fs) (g ∷ gs) m e =
    let first : f ≡ g = cc in
    let others : fs ++ m ∷ [] ≡ take (length (fs ++ m ∷ [])) gs = cc in
    ap₂ (λ (x : ParentMap) (xs : List ParentMap). x ∷ xs) first (front_left fs gs m others)

-- one key more is shared
pub one_key_more : (ms : List ParentMap) (ks : List Key) (i : ℕ) (m : ParentMap) (k : Key) (rest : List Key) → slice_get ms i ≡ Some m → drop i ks ≡ k ∷ rest → segment_of_key m.key ≡ segment_of_key k
    → AreKeys (take i ms) ks → AreKeys (take (suc i) ms) ks
one_key_more [] ks i m k rest at key same before = cc
one_key_more (n ∷ ms) [] zero m k rest at key same before = cc
one_key_more (n ∷ ms) (j ∷ ks) zero m k rest at key same before =
    let frame : n ≡ m = same_Some n m at in
    let first : j ≡ k = cc in
    (ap (λ (p : ParentMap). segment_of_key p.key) frame ∙ same ∙ ap segment_of_key (sym first), tt)
one_key_more (n ∷ ms) [] (suc i) m k rest at key same before = cc
one_key_more (n ∷ ms) (j ∷ ks) (suc i) m k rest at key same before = (before.0, one_key_more ms ks i m k rest at key same before.1)
