-- What is written of plain data, in any order that keeps lists, has a tree, from which a fitting shape reads data that are the same.
use Rattle.std.proofs.Common.{◌≡◌, ℕ, ◌+◌, ◌≤◌, Bool, true, false, ◌&&◌, ◌⊎◌, inl, inr, List, [], ◌∷◌, ◌++◌, map, length, refl, sym, ap, ap₂, ◌∙◌, subst, arith, Option, Some, None, le_refl}
use Rattle.std.specs.List.{AllByRecursion}
use Rattle.std.specs.List.Sorted.{IsPermutation}
use Rattle.std.proofs.lemmas.Option.{same_Some}
use Rattle.qs_spec.specs.Config.{Config, ArrayFormat, indexed, empty_indexed, unindexed, are_rejected}
use Rattle.qs_spec.specs.Token.{tokens}
use Rattle.qs_spec.specs.Grammar.{Pair, ArePairs}
use Rattle.qs_spec.specs.Tree.{node, longest, IsTree}
use Rattle.qs_spec.specs.Data.{Data, Values, no_values, one_value, Pairs, no_pairs, one_pair, Members, no_members, one_member}
use Rattle.qs_spec.specs.Shape.{Shape, is_distinct}
use Rattle.qs_spec.specs.Entry.{Entry, entries, entries_at}
use Rattle.qs_spec.specs.Written.{has_key, written, entry_text, path_text}
use Rattle.qs_spec.specs.internal.WrittenEntries.{IsValueOf}
use Rattle.qs_spec.proofs.Reorder.{Swaps}
use Rattle.qs_spec.proofs.Booleans.{and_both}
use Rattle.qs_spec.proofs.RelatedIsParsed.{found_pairs}
use Rattle.qs_spec.proofs.EntryParsed.{written_pair}
use Rattle.qs_spec.specs.Listed.{is_placed, is_list, is_listed, are_listed, are_listed_pairs, are_listed_members}
use Rattle.qs_spec.specs.internal.Parts.{Part, entry_of, part_pair, leaf_part, under_segment, Branch, branches, parts, value_parts, value_branches, pair_branches, member_branches}
use Rattle.qs_spec.specs.ReadBack.{IsPlainFor, IsReadBack, KeepsPaths}
use Rattle.qs_spec.proofs.Fitting.{fitting}
use Rattle.qs_spec.proofs.Permuted.{Perm, Perm-from, perm_map, perm_all, perm_one}
use Rattle.qs_spec.proofs.Placed.{after, parts_at}
use Rattle.qs_spec.proofs.Nodes.{HasSomePair}
use Rattle.qs_spec.proofs.Branches.{pairs, all_both, some_pairs}
use Rattle.qs_spec.proofs.Tidy.{AllTidy, AllCompatible, pairs_compatible, compatible_permitted}
use Rattle.qs_spec.proofs.GoodParts.{IsFine, IsByteValue, good}
use Rattle.qs_spec.proofs.ReadBack.{back}
use Rattle.qs_spec.proofs.PushParsed.{IsParseable, parts_parsed}
use Rattle.qs_spec.proofs.PartOrders.{perm_tidy, perm_swaps, lifted, kept_perm, kept_swaps, kept_lift}

after_nothing : (es : List Entry) → map (after []) es ≡ es
after_nothing [] = refl
after_nothing (e ∷ es) = ap (λ (l : List Entry). e ∷ l) (after_nothing es)

-- the entries are the parts
pub parts_of : (limit : ℕ) (fm : ArrayFormat) (d : Data) → is_listed fm false d ≡ true → (entries_at limit fm d []).error ≡ None
    → ((entries_at limit fm d []).entries ≡ map entry_of (parts fm d)) × AllByRecursion (λ (p : Part). length (entry_of p).path ≤ limit + 1) (parts fm d)
parts_of limit fm d li r =
    let h = parts_at limit fm false d [] li (omega arith) r in (
      h.is ∙ after_nothing (map entry_of (parts fm d)),
      all_both (λ (p : Part). length {A = List ℕ} [] + length (entry_of p).path ≤ limit + 1) (λ (p : Part). Unit {0}) (λ (p : Part). length (entry_of p).path ≤ limit + 1) (λ p l u. omega arith) (parts fm d) h.short (any (parts fm d)),
    )
  where
    any : (ps : List Part) → AllByRecursion (λ (p : Part). Unit {0}) ps
    any [] = tt
    any (p ∷ ps) = (tt, any ps)

-- all have a path, or there is one alone without
abbrev IsRooted : List Part → Type 0
IsRooted ps = AllByRecursion (λ (p : Part). has_key p.path ≡ true) ps ⊎ ((v : Option (List ℕ)) × (ps ≡ leaf_part v ∷ []))

branches_paths : (bs : List Branch) → AllByRecursion (λ (p : Part). has_key p.path ≡ true) (branches bs)
branches_paths [] = tt
branches_paths (b ∷ bs) = by b.1 (branches_paths bs)
  where
    by : (ps : List Part) → AllByRecursion (λ (p : Part). has_key p.path ≡ true) (branches bs) → AllByRecursion (λ (p : Part). has_key p.path ≡ true) (map (under_segment b.0) ps ++ branches bs)
    by [] more = more
    by (p ∷ ps) more = (refl, by ps more)

-- a list at the root is written by indices
list_rooted : (fm : ArrayFormat) (ds : Values) → is_placed fm false ≡ true → IsRooted (value_parts fm ds)
list_rooted indexed ds e = inl (branches_paths (value_branches indexed 0 ds))
list_rooted empty_indexed ds e = cc
list_rooted unindexed ds e = cc

pub rooted : (fm : ArrayFormat) (d : Data) → is_listed fm false d ≡ true → IsRooted (parts fm d)
rooted fm Data.unit e = inr (Some [], refl)
rooted fm Data.none e = inr (None, refl)
rooted fm (Data.some d) e = rooted fm d e
rooted fm (Data.boolean b) e = inr (_, refl)
rooted fm (Data.unsigned n) e = inr (_, refl)
rooted fm (Data.signed n) e = inr (_, refl)
rooted fm (Data.character c) e = inr (_, refl)
rooted fm (Data.text t) e = inr (_, refl)
rooted fm (Data.bytes b) e = inr (_, refl)
rooted fm (Data.sequence no_values) e = inr (Some [], refl)
rooted fm (Data.sequence (one_value d ds)) e = list_rooted fm (one_value d ds) (and_both (is_placed fm false) (is_list fm (one_value d ds)) (and_both (is_placed fm false && is_list fm (one_value d ds)) (are_listed fm (one_value d ds)) e).0).0
rooted fm (Data.tuple no_values) e = inr (Some [], refl)
rooted fm (Data.tuple (one_value d ds)) e = list_rooted fm (one_value d ds) (and_both (is_placed fm false) (is_list fm (one_value d ds)) (and_both (is_placed fm false && is_list fm (one_value d ds)) (are_listed fm (one_value d ds)) e).0).0
rooted fm (Data.mapping no_pairs) e = inr (Some [], refl)
rooted fm (Data.mapping (one_pair k d ps)) e = inl (branches_paths (pair_branches fm (one_pair k d ps)))
rooted fm (Data.struct ms) e = inl (branches_paths (member_branches fm ms))
rooted fm (Data.newtype d) e = rooted fm d e
rooted fm (Data.unit_variant name) e = inr (_, refl)
rooted fm (Data.newtype_variant name d) e = inl (branches_paths ((name, parts fm d) ∷ []))
rooted fm (Data.tuple_variant name ds) e = inl (branches_paths ((name, value_parts fm ds) ∷ []))
rooted fm (Data.struct_variant name ms) e = inl (branches_paths ((name, branches (member_branches fm ms)) ∷ []))

-- some pairs whose histories are permitted are a tree
pairs_tree : (fm : ArrayFormat) (is_form : Bool) (depth : ℕ) (text : List ℕ) (ps : List Pair) → ArePairs depth (tokens is_form text) ps → HasSomePair ps → AllCompatible fm ps → IsTree is_form depth text (node ps)
pairs_tree fm is_form depth [] [] g h a = absurd h
pairs_tree fm is_form depth [] (p ∷ ps) g h a = absurd (none (same_Some [] (p ∷ ps) (found_pairs g)))
  where
    none : [] ≡ p ∷ ps → ⊥
    none e = cc
pairs_tree fm is_form depth (b ∷ text) ps g h a = (ps, record { grammar = g; histories = compatible_permitted fm ps a }, refl)

readable : (is_form : Bool) (depth : ℕ) (p : Part) → has_key p.path ≡ true → IsFine is_form p → length (entry_of p).path ≤ depth + 1 → IsParseable is_form depth p
readable is_form depth p h f l = record { some = h; segments = f.0; short = l; value = by p.value f.1 }
  where
    by : (v : Option (List ℕ)) → IsByteValue v → IsValueOf ([] ∷ []) v
    by None b = b
    by (Some v) b = b

-- the tree of the text of the parts, in another order
pub written_tree : (fm : ArrayFormat) (is_form : Bool) (depth : ℕ) (ps qs : List Part) → IsRooted ps → AllByRecursion (IsFine is_form) ps → AllByRecursion (λ (p : Part). length (entry_of p).path ≤ depth + 1) ps → Perm ps qs
    → HasSomePair (pairs is_form qs) → AllCompatible fm (pairs is_form qs) → IsTree is_form depth (written is_form false (map entry_of qs)) (node (pairs is_form qs))
unfolding written entry_text path_text
written_tree fm is_form depth ps qs r f l w h a = by r
  where
    alone : (v : Option (List ℕ)) → IsByteValue v → HasSomePair (pairs is_form (leaf_part v ∷ [])) → AllCompatible fm (pairs is_form (leaf_part v ∷ [])) → IsTree is_form depth (written is_form false (map entry_of (leaf_part v ∷ []))) (node (pairs is_form (leaf_part v ∷ [])))
    alone None b h a = refl
    alone (Some v) b h a =
        pairs_tree fm is_form depth (written is_form false (map entry_of (leaf_part (Some v) ∷ []))) (pairs is_form (leaf_part (Some v) ∷ []))
        (written_pair is_form depth (entry_of (leaf_part (Some v))) (record { segments = tt; short = omega arith; value = b })) h a

    by : IsRooted ps → IsTree is_form depth (written is_form false (map entry_of qs)) (node (pairs is_form qs))
    by (inl p) =
        pairs_tree fm is_form depth (written is_form false (map entry_of qs)) (pairs is_form qs)
        (parts_parsed is_form depth qs
        (all_both (λ (p : Part). has_key p.path ≡ true) (λ (p : Part). IsFine is_form p × (length (entry_of p).path ≤ depth + 1)) (IsParseable is_form depth) (λ e q r. readable is_form depth e q r.0 r.1) qs (perm_all (λ (p : Part). has_key p.path ≡ true) w p)
        (all_both (IsFine is_form) (λ (p : Part). length (entry_of p).path ≤ depth + 1) (λ (p : Part). IsFine is_form p × (length (entry_of p).path ≤ depth + 1)) (λ e q r. (q, r)) qs (perm_all (IsFine is_form) w f) (perm_all (λ (p : Part). length (entry_of p).path ≤ depth + 1) w l)))) h a
    by (inr p) =
        let one : qs ≡ leaf_part p.0 ∷ [] = perm_one (leaf_part p.0) qs (subst (λ (l : List Part). Perm l qs) p.1 w) in
        let b : AllByRecursion (IsFine is_form) (leaf_part p.0 ∷ []) = subst (AllByRecursion (IsFine is_form)) p.1 f in
        subst (λ (l : List Part). IsTree is_form depth (written is_form false (map entry_of l)) (node (pairs is_form l))) (sym one)
        (alone p.0 b.0.1 (subst (λ (l : List Part). HasSomePair (pairs is_form l)) one h) (subst (λ (l : List Part). AllCompatible fm (pairs is_form l)) one a))

-- parts in an order that only swaps those whose paths don't overlap are read back
parts_back : (config : Config) (shape : Shape) (d : Data) (qs : List Part) → is_distinct shape ≡ true → IsPlainFor config shape d → is_listed config.array_format false d ≡ true
    → Perm (parts config.array_format d) qs → Swaps (pairs config.is_form (parts config.array_format d)) (pairs config.is_form qs) → IsReadBack config shape d (written config.is_form false (map entry_of qs))
parts_back config shape d qs dist w li q s =
    let fm = config.array_format in
    let is_form = config.is_form in
    let depth = config.max_depth in
    let r = parts_of depth fm d li w.whole in
    let f = fitting shape d w.fits in
    let g = good fm is_form f w.plain in
    let ps = pairs is_form qs in
    let b = back fm is_form (are_rejected config.duplicates) f dist w.plain false li (longest ps) ps (le_refl (longest ps)) s in
    record {
      tree = node ps;
      is_tree = written_tree fm is_form depth (parts fm d) qs (rooted fm d li) g.fine r.1 q (some_pairs is_form (parts fm d) ps g.full (perm_map (part_pair is_form) q)) (pairs_compatible fm is_form qs (perm_tidy fm is_form q g.tidy));
      answer = b.answer;
      reads = b.reads;
      same = b.same;
    }

-- Plain data that are written without an error are read back from their entries in every order that keeps those with one path.
pub lists_back : (config : Config) (shape : Shape) (d : Data) (es : List Entry) → is_distinct shape ≡ true → IsPlainFor config shape d → is_listed config.array_format false d ≡ true → KeepsPaths (entries config d).entries es
    → IsReadBack config shape d (written config.is_form false es)
lists_back config shape d es dist w li k =
    let fm = config.array_format in
    let r = parts_of config.max_depth fm d li w.whole in
    let g = good fm config.is_form (fitting shape d w.fits) w.plain in
    let o = kept_lift (parts fm d) es (subst (λ (l : List Entry). KeepsPaths l es) r.0 k) in
    subst (λ (l : List Entry). IsReadBack config shape d (written config.is_form false l)) (sym o.1)
    (parts_back config shape d o.0 dist w li (kept_perm o.2) (kept_swaps fm config.is_form o.2 g.tidy))

mutual
  listed : (below : Bool) (d : Data) → is_listed indexed below d ≡ true
  listed below Data.unit = refl
  listed below Data.none = refl
  listed below (Data.some d) = listed below d
  listed below (Data.boolean b) = refl
  listed below (Data.unsigned n) = refl
  listed below (Data.signed n) = refl
  listed below (Data.character c) = refl
  listed below (Data.text t) = refl
  listed below (Data.bytes b) = refl
  listed below (Data.sequence ds) = each_listed ds
  listed below (Data.tuple ds) = each_listed ds
  listed below (Data.mapping ps) = pairs_listed ps
  listed below (Data.struct ms) = members_listed ms
  listed below (Data.newtype d) = listed below d
  listed below (Data.unit_variant name) = refl
  listed below (Data.newtype_variant name d) = listed true d
  listed below (Data.tuple_variant name ds) = each_listed ds
  listed below (Data.struct_variant name ms) = members_listed ms

  each_listed : (ds : Values) → are_listed indexed ds ≡ true
  each_listed no_values = refl
  each_listed (one_value d ds) = ap₂ (λ a b. a && b) (listed true d) (each_listed ds)

  pairs_listed : (ps : Pairs) → are_listed_pairs indexed ps ≡ true
  pairs_listed no_pairs = refl
  pairs_listed (one_pair k d ps) = ap₂ (λ a b. a && b) (listed true d) (pairs_listed ps)

  members_listed : (ms : Members) → are_listed_members indexed ms ≡ true
  members_listed no_members = refl
  members_listed (one_member n d ms) = ap₂ (λ a b. a && b) (listed true d) (members_listed ms)

-- in the indexed format, in any order
pub in_format : (config : Config) (d : Data) → config.array_format ≡ indexed → is_listed config.array_format false d ≡ true
in_format config d e = ap (λ f. is_listed f false d) e ∙ listed false d

pub read_back : (config : Config) (shape : Shape) (d : Data) (es : List Entry) → config.array_format ≡ indexed → is_distinct shape ≡ true → IsPlainFor config shape d → IsPermutation (entries config d).entries es
    → IsReadBack config shape d (written config.is_form false es)
read_back config shape d es e dist w p =
    let fm = config.array_format in
    let is_form = config.is_form in
    let li = in_format config d e in
    let r = parts_of config.max_depth fm d li w.whole in
    let g = good fm is_form (fitting shape d w.fits) w.plain in
    let o = lifted (parts fm d) es (subst (λ (l : List Entry). Perm l es) r.0 (Perm-from (entries config d).entries es p)) in
    subst (λ (l : List Entry). IsReadBack config shape d (written is_form false l)) (sym o.1)
    (parts_back config shape d o.0 dist w li o.2 (perm_swaps is_form o.2 (subst (λ f. AllTidy f is_form (parts fm d)) e g.tidy)))
