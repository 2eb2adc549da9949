-- Leaves in no order, and the entries that they make.
use Rattle.qs_tree.proofs.Common.{inl, inr, cases_Bool, ◌≡◌, ◌≢◌, ◌≤◌, ◌<◌, ℕ, arith, length, get_or, ⊎_elim, same_segment, Bool, true, false, not, ◌&&◌, List, [], ◌∷◌, ◌++◌, map, refl, sym, ap, ap₂, ◌∙◌, Option, Some, Ordering, Less, Greater, is_lt, filter, IsPermutation, IsStrictlySortedBy, IsStableBy, ties, keys_of, ordering_reverse, Borrowed, filter_agree, same_Some, none-some, Pair, Segment, is_same_segment, compare_segments, Int, Str, Tree, entries_of, node_of_leaves, head_escaped, heads, node_within, leaf, entry, add_to_leaves, add_here, update, Key, ParsedValue, NoValue, None, entries_held, leaf_pairs, entries_of_leaves, AreLeaves, is_leaf, is_some, unwrap_or, true≢false, append-nil, append_assoc, leaf_held, leaf_in, key_cmp, segment_of_key, is_owned_key, parsed_segment_of_key, tree_of, and_parts, cases_lt, HaveDistinctKeys, All-permutation, Perm-from, perm_map, perm_heads, total-law, is_eq}
use Rattle.std.proofs.lemmas.List.Elements.{filter_passes}
use Rattle.std.proofs.lemmas.List.Kept.{AllPairs-filter}
use Rattle.std.proofs.lemmas.List.Sums.{AllPass-from_list_all, list_all-from_AllPass}
use Rattle.qs_spec.specs.History.{Event, event, under}
use Rattle.qs_spec.specs.History.Event.{assign}
use Rattle.qs_spec.specs.Leaf as spec
use Rattle.qs_spec.proofs.NodesOfLeaves.{AllAssign, assign_adds}
use Rattle.qs_spec.proofs.OneMore.{pair, history_push}
use Rattle.qs_spec.proofs.Update.{entries_within, update_pairs}
use Rattle.qs_tree.specs.declared.tree.key.Key.TheVariants as variant
use Rattle.qs_tree.proofs.lemmas.tree.Keys.{Held}
use Rattle.qs_tree.proofs.lemmas.tree.Places.{keys-append}
use Rattle.qs_tree.proofs.lemmas.build.Built.{above}
use Rattle.qs_tree.proofs.lemmas.build.Distinct.{alone}

-- the leaves of one key are assigned
assigned_pairs : (k : Segment) (ls : Held) → AllAssign (map event (under k (leaf_pairs ls)))
assigned_pairs k [] = tt
assigned_pairs k (p ∷ ls) = elim (cases_Bool (is_same_segment k (segment_of_key p.0))) [ inl at ↦ rw at (assigned_pairs k ls) | inr other ↦ rw other (assigned_pairs k ls) ]

leaf_pairs-last : (ls : Held) (p : Key × ParsedValue) → leaf_pairs (ls ++ p ∷ []) ≡ leaf_pairs ls ++ pair (parsed_segment_of_key p.0 ∷ []) false (leaf_held p.1) ∷ []
leaf_pairs-last [] p = refl
leaf_pairs-last (q ∷ ls) p = ap (λ ps. pair (parsed_segment_of_key q.0 ∷ []) false (leaf_held q.1) ∷ ps) (leaf_pairs-last ls p)

here_at_leaves : (l : spec.Leaf) (h : List Event) → add_here false l (node_of_leaves h) ≡ add_to_leaves false l (node_of_leaves h)
here_at_leaves l (assign o ∷ []) = refl
here_at_leaves l h = refl

-- one leaf more
module _ (ls : Held) (key : Key) (v : ParsedValue) where
  added : (g : Tree → Option Tree) → ((h : List Event) → g (node_of_leaves h) ≡ add_to_leaves false (leaf_held v) (node_of_leaves h)) → update (parsed_segment_of_key key) g (entries_of_leaves ls) ≡ Some (entries_of_leaves (ls ++ (key, v) ∷ []))
  added g same =
      let own = under (segment_of_key key) (leaf_pairs ls) in
      let made : g (node_of_leaves (map event own)) ≡ Some (node_of_leaves (map event own ++ assign (leaf_held v) ∷ [])) = same (map event own) ∙ assign_adds (map event own) (leaf_held v) (assigned_pairs (segment_of_key key) ls) in
      update_pairs 0 (leaf_pairs ls) (parsed_segment_of_key key) [] false (leaf_held v) g (Some (node_of_leaves (map event own ++ assign (leaf_held v) ∷ []))) made (λ t d. sym (same_Some _ t d) ∙ ap node_of_leaves (sym (history_push own (pair [] false (leaf_held v)))))
      ∙ ap (λ (ps : List Pair). Some (entries_within 0 ps)) (sym (leaf_pairs-last ls (key, v)))

  pub added_to_leaves : update (parsed_segment_of_key key) (add_to_leaves false (leaf_held v)) (entries_of_leaves ls) ≡ Some (entries_of_leaves (ls ++ (key, v) ∷ []))
  added_to_leaves = added (add_to_leaves false (leaf_held v)) (λ h. refl)

  pub added_here : update (parsed_segment_of_key key) (add_here false (leaf_held v)) (entries_of_leaves ls) ≡ Some (entries_of_leaves (ls ++ (key, v) ∷ []))
  added_here = added (add_here false (leaf_held v)) (here_at_leaves (leaf_held v))

-- the leaves of one key decide what its entry is
abbrev is_at_segment : Segment → Key × ParsedValue → Bool
is_at_segment k p = is_same_segment k (segment_of_key p.0)

abbrev first_escaped : Held → Bool
first_escaped [] = false
first_escaped (p ∷ ls) = is_owned_key p.0

abbrev bare_pairs : Held → List Pair
bare_pairs ls = map (λ p. pair [] false (leaf_held p.1)) ls

under_leaves : (k : Segment) (ls : Held) → under k (leaf_pairs ls) ≡ bare_pairs (filter (is_at_segment k) ls)
under_leaves k [] = refl
under_leaves k (p ∷ ls) = elim (cases_Bool (is_at_segment k p)) [ inl at ↦ rw (at, under_leaves k ls) | inr other ↦ rw (other, under_leaves k ls) ]

escaped_of_leaves : (k : Segment) (ls : Held) → head_escaped k (leaf_pairs ls) ≡ first_escaped (filter (is_at_segment k) ls)
escaped_of_leaves k [] = refl
escaped_of_leaves k (p ∷ ls) = elim (cases_Bool (is_at_segment k p)) [ inl at ↦ rw at | inr other ↦ rw (other, escaped_of_leaves k ls) ]

entries_agree : (m n : Segment → Bool) (f g : Segment → Tree) → ((k : Segment) → m k ≡ n k) → ((k : Segment) → f k ≡ g k) → (ks : List Segment) → entries_of m f ks ≡ entries_of n g ks
entries_agree m n f g escapes trees [] = refl
entries_agree m n f g escapes trees (k ∷ ks) =
    ap₂ (λ (b : Bool) (t : Tree). entry k b t (entries_of m f ks)) (escapes k) (trees k) ∙ ap (entry k (n k) (g k)) (entries_agree m n f g escapes trees ks)

abbrev pub is_before : Key × ParsedValue → Key × ParsedValue → Bool
is_before p q = is_lt (key_cmp p.0 q.0)

abbrev key_at : Segment → Key
key_at (Int n) = variant.Int n
key_at (Str b) = variant.String (Borrowed (record { ref_ptr = (0, 0); now = b }))

neither : (o : Ordering) → (not (is_lt o) && not (is_lt (ordering_reverse o))) ≡ is_eq o
neither Less = refl
neither o = refl

at_itself : (k : Segment) (key : Key) → key_cmp (key_at k) key ≡ compare_segments k (segment_of_key key)
at_itself (Int n) key = refl
at_itself (Str b) key = refl

ties_at : (k : Segment) (p : Key × ParsedValue) → ties is_before (key_at k, NoValue) p ≡ is_at_segment k p
ties_at k p =
    let turned : key_cmp p.0 (key_at k) ≡ ordering_reverse (key_cmp (key_at k) p.0) = total-law.antisymm p.0 (key_at k) in
    ap (λ (o : Ordering). not (is_lt (key_cmp (key_at k) p.0)) && not (is_lt o)) turned ∙ neither (key_cmp (key_at k) p.0) ∙ ap is_eq (at_itself k p.0)

-- leaves in another order make the same entries where those of one key keep their order
kept_leaves : (xs ys : Held) → IsPermutation xs ys → ((k : Segment) → filter (is_at_segment k) ys ≡ filter (is_at_segment k) xs) → entries_of_leaves ys ≡ entries_of_leaves xs
kept_leaves xs ys moved same =
    entries_agree (λ k. head_escaped k (leaf_pairs ys)) (λ k. head_escaped k (leaf_pairs xs)) (λ k. node_within 0 (under k (leaf_pairs ys))) (λ k. node_within 0 (under k (leaf_pairs xs)))
    (λ k. escaped_of_leaves k ys ∙ ap first_escaped (same k) ∙ sym (escaped_of_leaves k xs))
    (λ k. ap (node_within 0) (under_leaves k ys ∙ ap bare_pairs (same k) ∙ sym (under_leaves k xs)))
    (heads (leaf_pairs ys))
    ∙ ap (entries_of (λ k. head_escaped k (leaf_pairs xs)) (λ k. node_within 0 (under k (leaf_pairs xs)))) (sym (perm_heads (perm_map _ (Perm-from xs ys moved))))

-- leaves that were sorted stably
pub sorted_leaves : (xs ys : Held) → IsPermutation xs ys → IsStableBy is_before xs ys → entries_of_leaves ys ≡ entries_of_leaves xs
sorted_leaves xs ys moved stable = kept_leaves xs ys moved (λ k. sym (filter_agree _ _ (ties_at k) ys) ∙ stable (key_at k, NoValue) ∙ filter_agree _ _ (ties_at k) xs)

-- no two leaves are at one segment
at_most_one : (k : Segment) (es : Held) → HaveDistinctKeys es → length (filter (is_at_segment k) es) ≤ 1
at_most_one k es distinct = ⊎_elim (λ several. absurd (apart several (sym (at 0 (omega (arith, several))) ∙ at 1 several))) (λ few. few) (cases_lt 1 (length (filter (is_at_segment k) es)))
  where
    no_leaf : Key × ParsedValue
    no_leaf = (key_at k, NoValue)

    at : (i : ℕ) → i < length (filter (is_at_segment k) es) → k ≡ segment_of_key (get_or (filter (is_at_segment k) es) i no_leaf).0
    at i within = same_segment k _ (filter_passes (is_at_segment k) es i no_leaf within)

    apart : 1 < length (filter (is_at_segment k) es) → segment_of_key (get_or (filter (is_at_segment k) es) 0 no_leaf).0 ≢ segment_of_key (get_or (filter (is_at_segment k) es) 1 no_leaf).0
    apart several = AllPairs-filter (λ p q. segment_of_key p.0 ≢ segment_of_key q.0) (is_at_segment k) es distinct 0 1 no_leaf (omega arith) several

-- leaves of distinct keys in any other order
pub moved_distinct : (xs ys : Held) → IsPermutation xs ys → HaveDistinctKeys xs → entries_of_leaves ys ≡ entries_of_leaves xs
moved_distinct xs ys moved distinct = kept_leaves xs ys moved (λ k. alone (is_at_segment k) (Perm-from xs ys moved) (at_most_one k xs distinct))

-- a leaf at a key after all others
pub at_end : (key : Key) (ks : List Key) (v : ParsedValue) (l : spec.Leaf) → leaf_in (tree_of v) ≡ Some l → (es : Held) → IsStrictlySortedBy key_cmp (keys_of es ++ key ∷ ks)
    → update (parsed_segment_of_key key) (add_to_leaves false l) (entries_held es) ≡ Some (entries_held (es ++ (key, v) ∷ []))
unfolding IsStrictlySortedBy
at_end key ks v l is [] sorted = ap (λ t. Some (entry (segment_of_key key) (is_owned_key key) t (entries_held []))) (sym (only (tree_of v) is))
  where
    only : (t : Tree) → leaf_in t ≡ Some l → t ≡ leaf l
    only (leaf o) e = ap leaf (same_Some o l e)
    only t e = absurd (none-some l e)
at_end key ks v l is (e ∷ es) sorted =
    let after : compare_segments (parsed_segment_of_key key).segment (segment_of_key e.0) ≡ Greater = above key ks e.0 (keys_of es) sorted.0 in
    rw (after, at_end key ks v l is es sorted.1)

-- leaves of distinct keys make their own entries
grown : (front es : Held) → entries_of_leaves front ≡ entries_held front → IsStrictlySortedBy key_cmp (keys_of front ++ keys_of es) → AreLeaves es → entries_of_leaves (front ++ es) ≡ entries_held (front ++ es)
grown front [] same sorted leaves = rw append-nil same
grown front (e ∷ es) same sorted leaves =
    let each = and_parts (is_leaf (tree_of e.1)) _ leaves in
    let put = at_end e.0 (keys_of es) e.1 (leaf_held e.1) (held (leaf_in (tree_of e.1)) each.0) front sorted in
    let more = same_Some _ _ (sym (added_to_leaves front e.0 e.1) ∙ ap (update (parsed_segment_of_key e.0) (add_to_leaves false (leaf_held e.1))) same ∙ put) in
    let all = grown (front ++ e ∷ []) es more (rw (keys-append front (e ∷ []), append_assoc) sorted) each.1 in
    rw append_assoc at all
  where
    held : (o : Option spec.Leaf) → is_some o ≡ true → o ≡ Some (unwrap_or o spec.NoValue)
    held None is = absurd (true≢false (sym is))
    held (Some l) is = refl

pub distinct_leaves : (es : Held) → IsStrictlySortedBy key_cmp (keys_of es) → AreLeaves es → entries_of_leaves es ≡ entries_held es
distinct_leaves es sorted leaves = grown [] es refl sorted leaves

pub moved_leaves : (xs ys : Held) → IsPermutation xs ys → AreLeaves xs → AreLeaves ys
moved_leaves xs ys moved leaves = list_all-from_AllPass _ ys (All-permutation (λ p. is_leaf (tree_of p.1) ≡ true) xs ys moved (AllPass-from_list_all _ xs leaves))
