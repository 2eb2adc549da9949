-- What `any` reads from a stable tree, written in the indexed format, has that tree, ignoring escapes.
use Rattle.std.proofs.Common.{◌≡◌, ℕ, ◌+◌, ◌≤◌, ◌==◌, Bool, true, false, cond, not, ◌&&◌, List, [], ◌∷◌, map, refl, sym, ap, ap₂, ◌∙◌, subst, arith, nat_lt, Option, Some, None, le_refl}
use Rattle.std.specs.Option.{option_map, option_and_then}
use Rattle.std.specs.List.{list_any, AllByRecursion}
use Rattle.std.specs.List.Sorted.{IsPermutation}
use Rattle.std.specs.Ordering.{is_eq}
use Rattle.std.proofs.lemmas.Bool.Decides.{nat_tests}
use Rattle.std.proofs.lemmas.Option.{same_Some}
use Rattle.qs_spec.specs.Config.{Config, indexed, are_rejected}
use Rattle.qs_spec.specs.Segment.{Segment, segment_text, is_index, number, is_same_segment}
use Rattle.qs_spec.specs.Segment.Segment.{Int, Str}
use Rattle.qs_spec.specs.Leaf.{Leaf}
use Rattle.qs_spec.specs.Leaf.Leaf.{NoValue, Null, Text}
use Rattle.qs_spec.specs.Grammar.{Pair}
use Rattle.qs_spec.specs.History.{under}
use Rattle.qs_spec.specs.Tree.{Tree, Entries, IsTree, put, head_escaped, entries_of, node_within, node, longest}
use Rattle.qs_spec.specs.Tree.Tree.{leaf, sequence, mapping, uninitialized}
use Rattle.qs_spec.specs.Tree.Entries.{no_entries, entry}
use Rattle.qs_spec.specs.Order.{leaf_ignoring_escapes, ignoring_escapes, entries_ignoring_escapes, AreEquivalent}
use Rattle.qs_spec.specs.Data.{Data, Values, no_values, one_value, Pairs, no_pairs, one_pair}
use Rattle.qs_spec.specs.Shape.{Shape}
use Rattle.qs_spec.specs.Scalar.{text_data}
use Rattle.qs_spec.specs.Node.{is_place, are_ints}
use Rattle.qs_spec.specs.Relation.{ReadsBy}
use Rattle.qs_spec.specs.internal.ReadFunction.{reads, any_data, any_places, any_pairs}
use Rattle.qs_spec.specs.Entry.{Entry, entries}
use Rattle.qs_spec.specs.Written.{written}
use Rattle.qs_spec.specs.Plain.{has_bytes}
use Rattle.qs_spec.specs.Stable.{is_stable_key, has_entries, is_stable, are_stable}
use Rattle.qs_spec.specs.Token.{is_bracket}
use Rattle.qs_spec.specs.internal.WrittenEntries.{IsSegment, entry_leaf}
use Rattle.qs_spec.specs.internal.Keys.{IsInRange, AreAbove, AreAscending, IsAscending, HoldAscending}
use Rattle.qs_spec.specs.internal.Parts.{Part, entry_of, leaf_part, Branch, branches, parts, value_branches, pair_branches, part_pair}
use Rattle.qs_spec.proofs.Booleans.{and_both, not_of}
use Rattle.qs_spec.proofs.Order.{put_lt}
use Rattle.qs_spec.proofs.Reorder.{Swaps}
use Rattle.qs_spec.proofs.Permuted.{Perm, Perm-from, perm_map, perm_one, swaps_perm}
use Rattle.qs_spec.proofs.Nodes.{leaf_node}
use Rattle.qs_spec.proofs.Branches.{segment, pairs, IsOther, SegsDiffer, keys, branched, some_pairs}
use Rattle.qs_spec.proofs.Tidy.{AllTidy, pairs_compatible}
use Rattle.qs_spec.proofs.KeysBack.{segment_back, place_back, leaf_back}
use Rattle.qs_spec.proofs.GoodParts.{AreBytes, IsByteValue, IsGood, AreGood, good_leaf, good_branches, are_full, place_name, is_segment, utf8_bytes}
use Rattle.qs_spec.proofs.SomeAnswers.{mapped, chained, guarded}
use Rattle.qs_spec.proofs.DataReadIsRelated.{text_related}
use Rattle.qs_spec.proofs.DataRelatedIsRead.{sound}
use Rattle.qs_spec.proofs.Ascending.{tree_ascends}
use Rattle.qs_spec.proofs.TreeOf.{one_tree}
use Rattle.qs_spec.proofs.PartOrders.{perm_tidy, perm_swaps, lifted}
use Rattle.qs_spec.proofs.WrittenBack.{in_format, parts_of, rooted, written_tree}

module _ (is_form : Bool) where
  -- parts that are written of a tree, and branches that are of its entries
  mutual
    data AreOf : Tree → List Part → Type 0 where
      of_leaf : {l : Leaf} {v : Option (List ℕ)} → IsByteValue v → leaf_ignoring_escapes (entry_leaf is_form v) ≡ leaf_ignoring_escapes l → AreOf (leaf l) (leaf_part v ∷ [])
      of_map : {es : Entries} {b : Branch} {bs : List Branch} → AreAscending es → BranchesOf es (b ∷ bs) → AreOf (mapping es) (branches (b ∷ bs))

    data BranchesOf : Entries → List Branch → Type 0 where
      of_none : BranchesOf no_entries []
      of_more : {k : Segment} {escaped : Bool} {t : Tree} {es : Entries} {ps : List Part} {bs : List Branch} → IsSegment is_form (segment_text k) → segment is_form (segment_text k) ≡ k → AreOf t ps → BranchesOf es bs
          → BranchesOf (entry k escaped t es) ((segment_text k, ps) ∷ bs)

  abbrev keys_of : Entries → List Segment
  keys_of no_entries = []
  keys_of (entry k escaped t es) = k ∷ keys_of es

  -- ascending keys differ, and stay as they are when they are put in order
  others : (k : Segment) {es : Entries} {bs : List Branch} → segment is_form (segment_text k) ≡ k → AreAbove k es → BranchesOf es bs → AllByRecursion (IsOther is_form (segment_text k)) bs
  others k e a of_none = tt
  others k e a (of_more i f t b) = (ap₂ is_same_segment e f ∙ ap is_eq a.0, others k e a.1 b)

  differ : {es : Entries} {bs : List Branch} → AreAscending es → BranchesOf es bs → SegsDiffer is_form bs
  differ a of_none = tt
  differ a (of_more {k = k} i e t b) = (others k e a.1 b, differ a.2 b)

  put_first : (k : Segment) (es : Entries) → AreAbove k es → put k (keys_of es) ≡ k ∷ keys_of es
  put_first k no_entries a = refl
  put_first k (entry j escaped t es) a = put_lt k j (keys_of es) a.0

  in_order : {es : Entries} {bs : List Branch} → AreAscending es → BranchesOf es bs → keys is_form bs ≡ keys_of es
  in_order a of_none = refl
  in_order a (of_more {k = k} {es = es} i e t b) = ap₂ put e (in_order a.2 b) ∙ put_first k es a.1

  mutual
    good : {t : Tree} {ps : List Part} → AreOf t ps → IsGood indexed is_form ps
    good (of_leaf {v = v} h e) = good_leaf indexed is_form v h
    good (of_map {b = b} {bs = bs} a w) = good_branches indexed is_form b bs (differ a w) (each_good w)

    each_good : {es : Entries} {bs : List Branch} → BranchesOf es bs → AreGood indexed is_form bs
    each_good of_none = tt
    each_good (of_more {k = k} i e t b) = (((i, ap segment_text e), good t), each_good b)

  mutual
    -- the node of the parts, in any order, is the tree
    same_node : {t : Tree} {ps : List Part} → AreOf t ps → (n : ℕ) (qs : List Pair) → longest qs ≤ n → Swaps (pairs is_form ps) qs → ignoring_escapes (node_within n qs) ≡ ignoring_escapes t
    same_node (of_leaf {v = v} h e) n qs l w =
        ap ignoring_escapes (ap (node_within n) (perm_one (part_pair is_form (leaf_part v)) qs (swaps_perm w)) ∙ leaf_node n (entry_leaf is_form v)) ∙ ap leaf e
    same_node (of_map {es = es} {b = b} {bs = bs} a w) n qs l s =
        let g = branched is_form n qs b bs l (differ a w) (are_full indexed is_form (b ∷ bs) (each_good w)) s in
        ap ignoring_escapes g.is ∙ ap mapping (ap (λ ks. entries_ignoring_escapes (entries_of (λ k. head_escaped k qs) (λ k. node_within g.m (under k qs)) ks)) (in_order a w) ∙ same_entries w g.m qs g.short (λ k. head_escaped k qs) g.each)

    same_entries : {es : Entries} {bs : List Branch} → BranchesOf es bs → (m : ℕ) (qs : List Pair) → ((k : Segment) → longest (under k qs) ≤ m) → (escaped : Segment → Bool)
        → AllByRecursion (λ (b : Branch). Swaps (pairs is_form b.1) (under (segment is_form b.0) qs)) bs
        → entries_ignoring_escapes (entries_of escaped (λ k. node_within m (under k qs)) (keys_of es)) ≡ entries_ignoring_escapes es
    same_entries of_none m qs l escaped w = refl
    same_entries (of_more {k = k} {ps = ps} i e t b) m qs l escaped w =
        let here = same_node t m (under k qs) (l k) (subst (λ j. Swaps (pairs is_form ps) (under j qs)) e w.0) in
        ap₂ (λ (x : Tree) (xs : Entries). entry k false x xs) here (same_entries b m qs l escaped w.1)

  -- a key that is written is that key again
  stable_key : (k : Segment) → is_stable_key is_form k ≡ true → IsInRange k → AreBytes (segment_text k) → IsSegment is_form (segment_text k) × (segment is_form (segment_text k) ≡ k)
  stable_key (Int n) e r h = ((place_name is_form n r).0, place_back is_form n r)
  stable_key (Str s) e r h =
      let p = and_both (has_bytes s && not (is_index s)) (not (is_form && list_any is_bracket s)) e in
      let q = and_both (has_bytes s) (not (is_index s)) p.0 in
      (is_segment is_form s q.0 h (not_of (is_form && list_any is_bracket s) p.1), segment_back is_form s h ∙ ap (λ b. cond b (Int (number s)) (Str s)) (not_of (is_index s) q.1))

  stable_text : (t : List ℕ) (m : Bool) → has_bytes t ≡ true → AreBytes t → AreOf (leaf (Text t m)) (leaf_part (Some t) ∷ [])
  stable_text [] m e h = cc
  stable_text (b ∷ t) m e h = of_leaf h (ap leaf_ignoring_escapes (leaf_back is_form b t h))

  -- the index is the key's number
  at_place : (i : ℕ) (k : Segment) → is_place i k ≡ true → Int i ≡ k
  at_place i (Int n) e = let h = and_both (n == i) (nat_lt n 4294967295) e in ap Int (same h.0)
    where
      same : (n == i) ≡ true → i ≡ n
      same e = grind (arith, nat_tests)
  at_place i (Str s) e = cc

  of_places : {es : Entries} (ds : Values) → has_entries es ≡ true → AreAscending es → BranchesOf es (value_branches indexed 0 ds) → AreOf (mapping es) (parts indexed (Data.sequence ds))
  of_places no_values e a of_none = cc
  of_places (one_value d ds) e a w = of_map a w

  of_pairs : {es : Entries} (ps : Pairs) → has_entries es ≡ true → AreAscending es → BranchesOf es (pair_branches indexed ps) → AreOf (mapping es) (parts indexed (Data.mapping ps))
  of_pairs no_pairs e a of_none = cc
  of_pairs (one_pair k d ps) e a w = of_map a w

  map_is : (es : Entries) (d : Data) → has_entries es ≡ true → AreAscending es → ((ds : Values) → any_places 0 es ≡ Some ds → BranchesOf es (value_branches indexed 0 ds))
      → ((ps : Pairs) → any_pairs es ≡ Some ps → BranchesOf es (pair_branches indexed ps)) → (b : Bool)
      → cond b (option_map Data.sequence (any_places 0 es)) (option_map Data.mapping (any_pairs es)) ≡ Some d → AreOf (mapping es) (parts indexed d)
  map_is es d e a places pairs true r =
      let m = mapped Data.sequence (any_places 0 es) d r in
      subst (λ x. AreOf (mapping es) (parts indexed x)) m.2 (of_places m.0 e a (places m.0 m.1))
  map_is es d e a places pairs false r =
      let m = mapped Data.mapping (any_pairs es) d r in
      subst (λ x. AreOf (mapping es) (parts indexed x)) m.2 (of_pairs m.0 e a (pairs m.0 m.1))

  place_more : (i : ℕ) (k : Segment) (escaped : Bool) (t : Tree) (es : Entries) (d : Data) (ds : Values) → is_place i k ≡ true → IsInRange k → AreOf t (parts indexed d) → BranchesOf es (value_branches indexed (i + 1) ds)
      → BranchesOf (entry k escaped t es) (value_branches indexed i (one_value d ds))
  place_more i k escaped t es d ds e r w v =
      let j = at_place i k e in
      let l : i ≤ 4294967295 = subst IsInRange (sym j) r in
      subst (λ x. BranchesOf (entry x escaped t es) (value_branches indexed i (one_value d ds))) j (of_more {k = Int i} (place_name is_form i l).0 (place_back is_form i l) w v)

  mutual
    unfolding any_data any_places any_pairs

    any_is : (t : Tree) → is_stable is_form t ≡ true → IsAscending t → (d : Data) → any_data t ≡ Some d → AreOf t (parts indexed d)
    any_is (leaf NoValue) e a d r = cc
    any_is (leaf Null) e a d r = subst (λ x. AreOf (leaf Null) (parts indexed x)) (same_Some (Data.text []) d r) (of_leaf tt refl)
    any_is (leaf (Text t m)) e a d r = let x = text_related t d r in subst (λ x. AreOf (leaf (Text t m)) (parts indexed x)) x.1 (stable_text t m e (utf8_bytes t x.0))
    any_is (sequence xs) e a d r = cc
    any_is (mapping es) e a d r =
        let p = and_both (has_entries es) (are_stable is_form es) e in
        map_is es d p.0 a.0 (λ ds f. places_are 0 es p.1 a.0 a.1 ds f) (λ ps f. pairs_are es p.1 a.0 a.1 ps f) (are_ints es) r
    any_is uninitialized e a d r = cc

    places_are : (i : ℕ) (es : Entries) → are_stable is_form es ≡ true → AreAscending es → HoldAscending es → (ds : Values) → any_places i es ≡ Some ds → BranchesOf es (value_branches indexed i ds)
    places_are i no_entries e a h ds r = subst (λ x. BranchesOf no_entries (value_branches indexed i x)) (same_Some no_values ds r) of_none
    places_are i (entry k escaped t es) e a h ds r =
        let p = and_both (is_stable_key is_form k && is_stable is_form t) (are_stable is_form es) e in
        let q = and_both (is_stable_key is_form k) (is_stable is_form t) p.0 in
        let g = guarded (is_place i k) (option_and_then (λ d. option_map (one_value d) (any_places (i + 1) es)) (any_data t)) ds r in
        let c = chained (λ d. option_map (one_value d) (any_places (i + 1) es)) (any_data t) ds g.1 in
        let m = mapped (one_value c.0) (any_places (i + 1) es) ds c.2 in
        subst (λ x. BranchesOf (entry k escaped t es) (value_branches indexed i x)) m.2
        (place_more i k escaped t es c.0 m.0 g.0 a.0 (any_is t q.1 h.0 c.0 c.1) (places_are (i + 1) es p.1 a.2 h.1 m.0 m.1))

    pairs_are : (es : Entries) → are_stable is_form es ≡ true → AreAscending es → HoldAscending es → (ps : Pairs) → any_pairs es ≡ Some ps → BranchesOf es (pair_branches indexed ps)
    pairs_are no_entries e a h ps r = subst (λ x. BranchesOf no_entries (pair_branches indexed x)) (same_Some no_pairs ps r) of_none
    pairs_are (entry k escaped t es) e a h ps r =
        let p = and_both (is_stable_key is_form k && is_stable is_form t) (are_stable is_form es) e in
        let q = and_both (is_stable_key is_form k) (is_stable is_form t) p.0 in
        let c = chained (λ a. option_and_then (λ d. option_map (one_pair a d) (any_pairs es)) (any_data t)) (text_data (segment_text k)) ps r in
        let d = chained (λ d. option_map (one_pair c.0 d) (any_pairs es)) (any_data t) ps c.2 in
        let m = mapped (one_pair c.0 d.0) (any_pairs es) ps d.2 in
        let x = text_related (segment_text k) c.0 c.1 in
        let s = stable_key k q.0 a.0 (utf8_bytes (segment_text k) x.0) in
        subst (λ y. BranchesOf (entry k escaped t es) (pair_branches indexed y)) (ap (λ y. one_pair y d.0 m.0) x.1 ∙ m.2)
        (of_more s.0 s.1 (any_is t q.1 h.0 d.0 d.1) (pairs_are es p.1 a.2 h.1 m.0 m.1))

pub stable_back : (config : Config) (input : List ℕ) (t : Tree) (d : Data) (es : List Entry) → config.array_format ≡ indexed → IsTree config.is_form config.max_depth input t → is_stable config.is_form t ≡ true
    → ReadsBy config Shape.any t d → (entries config d).error ≡ None → IsPermutation (entries config d).entries es → AreEquivalent config.is_form config.max_depth input (written config.is_form false es)
unfolding reads
stable_back config input t d es f i e r whole p =
    let fm = config.array_format in
    let is_form = config.is_form in
    let depth = config.max_depth in
    let li = in_format config d f in
    let x = parts_of depth fm d li whole in
    let o = lifted (parts fm d) es (subst (λ (l : List Entry). Perm l es) x.0 (Perm-from (entries config d).entries es p)) in
    let of = any_is is_form t e (tree_ascends is_form depth input t i) d (sound (are_rejected config.duplicates) {s = Shape.any} refl r) in
    let g = subst (λ m. IsGood m is_form (parts m d)) (sym f) (good is_form of) in
    let ps = pairs is_form o.0 in
    let s = perm_swaps is_form o.2 (subst (λ m. AllTidy m is_form (parts fm d)) f g.tidy) in
    let again = written_tree fm is_form depth (parts fm d) o.0 (rooted fm d li) g.fine x.1 o.2 (some_pairs is_form (parts fm d) ps g.full (perm_map (part_pair is_form) o.2)) (pairs_compatible fm is_form o.0 (perm_tidy fm is_form o.2 g.tidy)) in
    let same = same_node is_form of (longest ps) ps (le_refl (longest ps)) (subst (λ m. Swaps (pairs is_form (parts m d)) ps) f s) in
    subst (λ (l : List Entry). AreEquivalent is_form depth input (written is_form false l)) (sym o.1) (record {
      there = λ u j. (node ps, again, same ∙ ap ignoring_escapes (one_tree is_form depth input t u i j));
      back = λ u j. (t, i, sym same ∙ ap ignoring_escapes (one_tree is_form depth (written is_form false (map entry_of o.0)) (node ps) u again j));
    })
