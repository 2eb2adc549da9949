-- The tree of an input whose names are distinct holds its names and values.
use Rattle.std.proofs.Common.{◌≡◌, ◌↔◌, ℕ, Bool, true, false, cond, not, List, [], ◌∷◌, ◌++◌, refl, sym, ap, ap₂, ◌∙◌, subst, append-nil, Ordering, Less, Equal, Greater, Option, Some, None, option_map, option_and_then}
use Rattle.std.specs.List.{AllByRecursion}
use Rattle.std.specs.Prelude.{IsPermutation}
use Rattle.std.proofs.lemmas.Option.{none-some, same_Some}
use Rattle.std.proofs.lemmas.List.Sorted.{IsPermutation-refl, IsPermutation-sym, IsPermutation-cons, IsPermutation-trans, IsPermutation-middle, IsPermutation-append_right}
use Rattle.qs_spec.specs.Segment.{Segment, ParsedSegment, number, compare_segments, is_same_segment}
use Rattle.qs_spec.specs.Segment.Segment.{Int, Str}
use Rattle.qs_spec.specs.Leaf.{Leaf, leaf_text}
use Rattle.qs_spec.specs.Grammar.{Pair}
use Rattle.qs_spec.specs.Tree.{empty_segment, Tree, Entries, IsTree, HasNoTree}
use Rattle.qs_spec.specs.Tree.Tree.{leaf, mapping, uninitialized}
use Rattle.qs_spec.specs.Tree.Entries.{entry, no_entries}
use Rattle.qs_spec.specs.internal.InPlace.{update, update_by, add_to_leaves, add, add_all}
use Rattle.qs_spec.proofs.Order.{exact_segment, is_itself}
use Rattle.qs_spec.proofs.Permuted.{Perm-from, perm_all}
use Rattle.qs_spec.proofs.OneMore.{NoEmpty, NoneEmpty}
use Rattle.qs_spec.proofs.Empty.{none_empty}
use Rattle.qs_spec.proofs.Scan.{in_place}
use Rattle.qs_standards.specs.FormUrlencoded.{NameValue, isnt_empty, form_parsed}
use Rattle.qs_standards.specs.Covered.{covers_encoded}
use Rattle.qs_standards.specs.Pieces.{piece_pairs}
use Rattle.qs_standards.specs.Named.{HasName, IsNamePath, IsNamed, AreNamed, key_of, AreDistinct, AreEntries, HoldsNamed, begins_empty}
use Rattle.qs_standards.proofs.Pieces.{are_pairs}
use Rattle.qs_standards.proofs.Alike.{named_pieces}

-- two names of one key are one
one_name : (a b : List ℕ) (k : Segment) → HasName a k → HasName b k → key_of a ≡ key_of b
one_name a b (Int n) g h = index a n g ∙ sym (index b n h)
  where
    index : (a : List ℕ) (n : ℕ) → HasName a (Int n) → key_of a ≡ Int n
    index a n h = ap (λ x. cond x (Int (number a)) (Str a)) h.0 ∙ ap Int h.1
one_name a b (Str bytes) g h = ap key_of (g ∙ sym h)

apart : (m n : NameValue) (k : Segment) → is_same_segment (key_of m.name) (key_of n.name) ≡ false → HasName m.name k → HasName n.name k → ⊥
apart m n k d g h =
    let e = sym (is_itself (key_of n.name)) ∙ ap (λ x. is_same_segment x (key_of n.name)) (sym (one_name m.name n.name k g h)) ∙ d in
    cc

-- one entry more, where no entry has its name
record Inserted (n : NameValue) (ms : List NameValue) (o : Option Entries) : Type 0 where
  after : Entries
  is : o ≡ Some after
  named : List NameValue
  order : IsPermutation (n ∷ ms) named
  are : AreEntries named after

module _ (n : NameValue) (s : ParsedSegment) (f : Tree → Option Tree) (l : Leaf) (new : f uninitialized ≡ Some (leaf l)) (name : HasName n.name s.segment) (value : n.value ≡ leaf_text l) where
  inserted : (ms : List NameValue) (es : Entries) → AreEntries ms es → AllByRecursion (λ m. is_same_segment (key_of m.name) (key_of n.name) ≡ false) ms → Inserted n ms (update s f es)
  inserted [] no_entries h d = record { after = entry s.segment s.escaped (leaf l) no_entries; is = ap (option_map (λ u. entry s.segment s.escaped u no_entries)) new; named = n ∷ []; order = IsPermutation-refl (n ∷ []); are = (name, value, tt) }
  inserted [] (entry k escaped t es) h d = absurd h
  inserted (m ∷ ms) no_entries h d = absurd h
  inserted (m ∷ ms) (entry k escaped t es) h d = by (compare_segments s.segment k) refl (inserted ms es h.2 d.1)
    where
      by : (o : Ordering) → compare_segments s.segment k ≡ o → Inserted n ms (update s f es) → Inserted n (m ∷ ms) (update_by o s f k escaped t es (update s f es))
      by Less e r = record { after = entry s.segment s.escaped (leaf l) (entry k escaped t es); is = ap (option_map (λ u. entry s.segment s.escaped u (entry k escaped t es))) new; named = n ∷ m ∷ ms; order = IsPermutation-refl (n ∷ m ∷ ms); are = (name, value, h) }
      by Equal e r = absurd (apart m n k d.0 h.0 (subst (HasName n.name) (exact_segment s.segment k e) name))
      by Greater e r = record {
        after = entry k escaped t r.after;
        is = ap (option_map (entry k escaped t)) r.is;
        named = m ∷ r.named;
        order = IsPermutation-trans (n ∷ m ∷ ms) (m ∷ n ∷ ms) (m ∷ r.named) (IsPermutation-middle (n ∷ []) m ms) (IsPermutation-cons m (n ∷ ms) r.named r.order);
        are = (h.0, h.1, r.are);
      }

-- one pair more
pair_inserted : (n : NameValue) (p : Pair) (ms : List NameValue) (es : Entries) → IsNamed n p → AreEntries ms es → AllByRecursion (λ m. is_same_segment (key_of m.name) (key_of n.name) ≡ false) ms
    → (o : Option Entries) × (add p.path p.push p.leaf (mapping es) ≡ option_map mapping o) × Inserted n ms o
pair_inserted n p ms es h are d = by p.path h.name
  where
    by : (path : List ParsedSegment) → IsNamePath n.name path → (o : Option Entries) × (add path p.push p.leaf (mapping es) ≡ option_map mapping o) × Inserted n ms o
    by [] i = (update empty_segment (add_to_leaves false p.leaf) es, ap (λ b. add [] b p.leaf (mapping es)) h.assigned, inserted n empty_segment (add_to_leaves false p.leaf) p.leaf refl i h.value ms es are d)
    by (s ∷ []) i = (update s (add [] false p.leaf) es, ap (λ b. add (s ∷ []) b p.leaf (mapping es)) h.assigned, inserted n s (add [] false p.leaf) p.leaf refl i h.value ms es are d)
    by (s ∷ u ∷ path) i = absurd i

-- all pairs, on a map
record Added (ns ms : List NameValue) (o : Option Tree) : Type 0 where
  after : Entries
  is : o ≡ Some (mapping after)
  named : List NameValue
  order : IsPermutation (ns ++ ms) named
  are : AreEntries named after

-- each of some names differs from each of others
abbrev AllDiffer : List NameValue → List NameValue → Type 0
AllDiffer ms ns = AllByRecursion (λ n. AllByRecursion (λ m. is_same_segment (key_of m.name) (key_of n.name) ≡ false) ms) ns

differ_more : (n : NameValue) (ms named ns : List NameValue) → IsPermutation (n ∷ ms) named → AllDiffer ms ns → AllByRecursion (λ m. is_same_segment (key_of n.name) (key_of m.name) ≡ false) ns → AllDiffer named ns
differ_more n ms named [] p d e = tt
differ_more n ms named (m ∷ ns) p d e = (perm_all (λ x. is_same_segment (key_of x.name) (key_of m.name) ≡ false) (Perm-from (n ∷ ms) named p) (e.0, d.0), differ_more n ms named ns p d.1 e.1)

added : (ns : List NameValue) (ps : List Pair) (ms : List NameValue) (es : Entries) → AreNamed ns ps → AreEntries ms es → AreDistinct ns → AllDiffer ms ns → Added ns ms (add_all ps (mapping es))
added [] [] ms es h are u d = record { after = es; is = refl; named = ms; order = IsPermutation-refl ms; are = are }
added [] (p ∷ ps) ms es h are u d = absurd h
added (n ∷ ns) [] ms es h are u d = absurd h
added (n ∷ ns) (p ∷ ps) ms es h are u d =
    let r = pair_inserted n p ms es h.0 are d.0 in
    let i = r.2 in
    let a = added ns ps i.named i.after h.1 i.are u.1 (differ_more n ms i.named ns i.order d.1 u.0) in
    record {
      after = a.after;
      is = ap (option_and_then (add_all ps)) (r.1 ∙ ap (option_map mapping) i.is) ∙ a.is;
      named = a.named;
      order = IsPermutation-trans (n ∷ ns ++ ms) (ns ++ n ∷ ms) a.named (IsPermutation-sym (ns ++ n ∷ ms) (n ∷ ns ++ ms) (IsPermutation-middle ns n ms))
          (IsPermutation-trans (ns ++ n ∷ ms) (ns ++ i.named) a.named (IsPermutation-append_right ns (n ∷ ms) i.named i.order) a.order);
      are = a.are;
    }

-- from the first pair on
abbrev Outcome : Bool → List NameValue → Option Tree → Type 0
Outcome true ns o = o ≡ None
Outcome false ns o = (t : Tree) × (o ≡ Some t) × HoldsNamed ns t

on_map : (n : NameValue) (ns : List NameValue) (p : Pair) (ps : List Pair) (s : ParsedSegment) → p.path ≡ s ∷ [] → HasName n.name s.segment → IsNamed n p → AreNamed ns ps → AreDistinct (n ∷ ns) → Outcome false (n ∷ ns) (add_all (p ∷ ps) uninitialized)
on_map n ns p ps s w name h hs u =
    let es = entry s.segment s.escaped (leaf p.leaf) no_entries in
    let a = added ns ps (n ∷ []) es hs (name, h.value, tt) u.1 (each ns u.0) in (
      mapping a.after,
      ap (option_and_then (add_all ps)) (ap₂ (λ (q : List ParsedSegment) (b : Bool). add q b p.leaf uninitialized) w h.assigned) ∙ a.is,
      (a.named, IsPermutation-trans (n ∷ ns) (ns ++ n ∷ []) a.named (last ns) a.order, a.are),
    )
  where
    each : (ms : List NameValue) → AllByRecursion (λ m. is_same_segment (key_of n.name) (key_of m.name) ≡ false) ms → AllDiffer (n ∷ []) ms
    each [] d = tt
    each (m ∷ ms) d = ((d.0, tt), each ms d.1)

    last : (ms : List NameValue) → IsPermutation (n ∷ ms) (ms ++ n ∷ [])
    last ms = subst (λ (l : List NameValue). IsPermutation (n ∷ l) (ms ++ n ∷ [])) (append-nil ms) (IsPermutation-sym (ms ++ n ∷ []) (n ∷ ms ++ []) (IsPermutation-middle ms n []))

some_name : (n : NameValue) (s : ParsedSegment) → HasName n.name s.segment → is_same_segment (Str []) s.segment ≡ false → isnt_empty n.name ≡ true
some_name n s h d = by n.name refl
  where
    none : (k : Segment) → HasName [] k → is_same_segment (Str []) k ≡ false → ⊥
    none (Int m) h d = let i = h.0 in cc
    none (Str bytes) h d = let e : true ≡ false = ap (λ (x : List ℕ). is_same_segment (Str []) (Str x)) h ∙ d in cc

    by : (name : List ℕ) → n.name ≡ name → isnt_empty name ≡ true
    by [] e = absurd (none s.segment (subst (λ (x : List ℕ). HasName x s.segment) e h) d)
    by (b ∷ name) e = refl

-- a leaf of the empty name, and nothing beside it
on_leaf : (n : NameValue) (p : Pair) → p.path ≡ [] → IsNamed n p → add p.path p.push p.leaf uninitialized ≡ Some (leaf p.leaf)
on_leaf n p w h = ap₂ (λ (q : List ParsedSegment) (b : Bool). add q b p.leaf uninitialized) w h.assigned

beside_leaf : (m : NameValue) (q : Pair) (o : Leaf) → IsNamed m q → (m.name ≡ [] → ⊥) → add q.path q.push q.leaf (leaf o) ≡ None
beside_leaf m q o h some = by q.path h.name
  where
    by : (path : List ParsedSegment) → IsNamePath m.name path → add path q.push q.leaf (leaf o) ≡ None
    by [] i = absurd (some i)
    by (s ∷ []) i = refl
    by (s ∷ u ∷ path) i = refl

outcome : (ns : List NameValue) (ps : List Pair) → AreNamed ns ps → AreDistinct ns → NoneEmpty ps → Outcome (begins_empty ns) ns (add_all ps uninitialized)
outcome [] [] h u k = (uninitialized, refl, refl)
outcome [] (p ∷ ps) h u k = absurd h
outcome (n ∷ ns) [] h u k = absurd h
outcome (n ∷ []) (p ∷ q ∷ ps) h u k = absurd h.1
outcome (n ∷ m ∷ ns) (p ∷ []) h u k = absurd h.1
outcome (n ∷ []) (p ∷ []) h u k = by p.path refl h.0.name
  where
    by : (path : List ParsedSegment) → p.path ≡ path → IsNamePath n.name path → Outcome false (n ∷ []) (add_all (p ∷ []) uninitialized)
    by [] w i = (leaf p.leaf, ap (option_and_then (add_all [])) (on_leaf n p w h.0), ap₂ (λ (a b : List ℕ). record { name = a; value = b } ∷ []) i h.0.value)
    by (s ∷ []) w i = on_map n [] p [] s w i h.0 tt u
    by (s ∷ v ∷ path) w i = absurd i
outcome (n ∷ m ∷ ns) (p ∷ q ∷ ps) h u k = by p.path refl h.0.name k.0
  where
    two_empty : n.name ≡ [] → m.name ≡ [] → ⊥
    two_empty a b = let e = sym (is_itself (key_of [])) ∙ ap₂ (λ (x y : List ℕ). is_same_segment (key_of x) (key_of y)) (sym a) (sym b) ∙ u.0.0 in cc

    by : (path : List ParsedSegment) → p.path ≡ path → IsNamePath n.name path → NoEmpty path → Outcome (not (isnt_empty n.name)) (n ∷ m ∷ ns) (add_all (p ∷ q ∷ ps) uninitialized)
    by [] w i k =
        subst (λ (x : List ℕ). Outcome (not (isnt_empty x)) (n ∷ m ∷ ns) (add_all (p ∷ q ∷ ps) uninitialized)) (sym i)
        (ap (option_and_then (add_all (q ∷ ps))) (on_leaf n p w h.0) ∙ ap (option_and_then (add_all ps)) (beside_leaf m q p.leaf h.1.0 (two_empty i)))
    by (s ∷ []) w i k =
        subst (λ (x : Bool). Outcome (not x) (n ∷ m ∷ ns) (add_all (p ∷ q ∷ ps) uninitialized)) (sym (some_name n s i k.0)) (on_map n (m ∷ ns) p (q ∷ ps) s w i h.0 h.1 u)
    by (s ∷ v ∷ path) w i k = absurd i

module _ (is_form : Bool) (b : ℕ) (input : List ℕ) (clear : covers_encoded (b ∷ input) ≡ false) (distinct : AreDistinct (form_parsed (b ∷ input))) where
  found : Outcome (begins_empty (form_parsed (b ∷ input))) (form_parsed (b ∷ input)) (add_all (piece_pairs (b ∷ input)) uninitialized)
  found = outcome (form_parsed (b ∷ input)) (piece_pairs (b ∷ input)) ((named_pieces (b ∷ input)).1 clear) distinct (none_empty is_form 0 (b ∷ input) (piece_pairs (b ∷ input)) (are_pairs is_form (b ∷ input)))

  placed : (t : Tree) → (add_all (piece_pairs (b ∷ input)) uninitialized ≡ Some t) ↔ IsTree is_form 0 (b ∷ input) t
  placed t = in_place is_form 0 b input (piece_pairs (b ∷ input)) t (are_pairs is_form (b ∷ input))

  pub holds : (t : Tree) → IsTree is_form 0 (b ∷ input) t → HoldsNamed (form_parsed (b ∷ input)) t
  holds t h = by (begins_empty (form_parsed (b ∷ input))) found ((placed t).1 h)
    where
      by : (x : Bool) → Outcome x (form_parsed (b ∷ input)) (add_all (piece_pairs (b ∷ input)) uninitialized) → add_all (piece_pairs (b ∷ input)) uninitialized ≡ Some t → HoldsNamed (form_parsed (b ∷ input)) t
      by true o e = absurd (none-some t (sym o ∙ e))
      by false o e = subst (HoldsNamed (form_parsed (b ∷ input))) (same_Some o.0 t (sym o.1 ∙ e)) o.2

  pub some_tree : begins_empty (form_parsed (b ∷ input)) ≡ false → (t : Tree) × IsTree is_form 0 (b ∷ input) t
  some_tree e =
      let o = subst (λ (x : Bool). Outcome x (form_parsed (b ∷ input)) (add_all (piece_pairs (b ∷ input)) uninitialized)) e found in
      (o.0, (placed o.0).0 o.1)

  pub no_tree : begins_empty (form_parsed (b ∷ input)) ≡ true → HasNoTree is_form 0 (b ∷ input)
  no_tree e = λ t h.
      let o = subst (λ (x : Bool). Outcome x (form_parsed (b ∷ input)) (add_all (piece_pairs (b ∷ input)) uninitialized)) e found in
      none-some t (sym o ∙ (placed t).1 h)
