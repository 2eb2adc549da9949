-- What a map under construction holds after a step.
use Rattle.qs_tree.proofs.Common.{◌≡◌, ℕ, List, [], ◌∷◌, ◌++◌, slice_get, Option, Some, None, none-some, option_map, unwrap_or, Result, Ok, Err, Ordering, Less, Equal, Greater, refl, sym, ap, ◌∙◌, rules, Global, AllByRecursion, IsStrictlySortedBy, keys_of, lookup, set_value, ordering_reverse, is_at, insert_entry, BTreeMap, Tree, Entries, uninitialized, compare_segments, update, Key, TreeBuilder, AddError, key_cmp, AddGives, IsHit, IsGap, put_value, segment_of_key, parsed_segment_of_key, value_at_key, built_tree, built_entries, entries_seen, entries_held, as_builders, fresh, child, Takes, total-law}
use Rattle.qs_spec.proofs.GoodParts.{all_to}
use Rattle.qs_tree.specs.declared.build.builder.MapBuilder.{the_lemmas}
use Rattle.qs_tree.specs.declared.build.builder.MapBuilder.TheVariants as is_form
use Rattle.qs_tree.proofs.lemmas.tree.Keys.{Held, seen_view, seen-lookup, key_cmp-segments}
use Rattle.qs_tree.proofs.lemmas.tree.Ordered.{ordered_seen}
use Rattle.qs_tree.proofs.lemmas.tree.Places.{hit_lookup, gap_lookup, hit_set}
use Rattle.qs_tree.proofs.lemmas.build.Turns.{rejected_too, put_there, rejected_there}
use Rattle.qs_tree.proofs.lemmas.Views.{built_tree-Value, built_tree-fresh}

abbrev Unfinished : Type 0
Unfinished = List (Key × TreeBuilder)

pub built_entries-Vector : (es : Unfinished) → built_entries (is_form.Vector es) ≡ entries_seen es
built_entries-Vector es = search (rules, the_lemmas)

pub built_entries-Tree : (m : BTreeMap Key TreeBuilder Global) → built_entries (is_form.Tree m) ≡ entries_seen m.entries
built_entries-Tree m = search (rules, the_lemmas)

pub seen-builders : (es : Held) → entries_seen (as_builders es) ≡ entries_held es
seen-builders [] = refl
seen-builders (e ∷ es) = rw (built_tree-Value e.1, seen-builders es)

pub ruleset forms = (built_entries-Vector, built_entries-Tree)

module _ {X : Type 0} (seen : X → Tree) (k : Key) where
  pub inserted : (es : List (Key × X)) (v : X) → update (parsed_segment_of_key k) (λ _. Some (seen v)) (seen_view seen es) ≡ Some (seen_view seen (insert_entry key_cmp es k v))
  inserted [] v = refl
  inserted (e ∷ es) v = by (inserted es v) (key_cmp k e.0) refl
    where
      by : update (parsed_segment_of_key k) (λ _. Some (seen v)) (seen_view seen es) ≡ Some (seen_view seen (insert_entry key_cmp es k v)) → (o : Ordering) → key_cmp k e.0 ≡ o
          → update (parsed_segment_of_key k) (λ _. Some (seen v)) (seen_view seen (e ∷ es)) ≡ Some (seen_view seen (insert_entry key_cmp (e ∷ es) k v))
      by more Greater d = rw (← key_cmp-segments k e.0, d, more)
      by more o d = rw (← key_cmp-segments k e.0, d)

  -- no key is this one
  none_set : (es : List (Key × X)) (w : X) → AllByRecursion (λ y. key_cmp k y ≡ Less) (keys_of es) → set_value (is_at (key_cmp k)) es w ≡ es
  none_set [] w h = refl
  none_set (e ∷ es) w h = rw h.0 (ap (λ l. e ∷ l) (none_set es w h.1))

  none_there : (es : List (Key × X)) → AllByRecursion (λ y. key_cmp k y ≡ Less) (keys_of es) → lookup (is_at (key_cmp k)) es ≡ None
  none_there [] h = refl
  none_there (e ∷ es) h = rw h.0 (none_there es h.1)

  -- an entry is inserted at a key that is there
  pub found_set : (es : List (Key × X)) (old new : X) → lookup (is_at (key_cmp k)) es ≡ Some old → IsStrictlySortedBy key_cmp (keys_of es) → insert_entry key_cmp es k new ≡ set_value (is_at (key_cmp k)) es new
  unfolding IsStrictlySortedBy
  found_set [] old new is sorted = absurd (none-some old is)
  found_set (e ∷ es) old new is sorted = by (found_set es old new) (key_cmp k e.0) refl
    where
      by : (lookup (is_at (key_cmp k)) es ≡ Some old → IsStrictlySortedBy key_cmp (keys_of es) → insert_entry key_cmp es k new ≡ set_value (is_at (key_cmp k)) es new) → (o : Ordering) → key_cmp k e.0 ≡ o
          → insert_entry key_cmp (e ∷ es) k new ≡ set_value (is_at (key_cmp k)) (e ∷ es) new
      by more Less d = absurd (none-some old (sym (none_there es (all_to _ _ (λ y. total-law.trans k e.0 y d) (keys_of es) sorted.0)) ∙ (rw d at is)))
      by more Equal d = rw d
      by more Greater d = rw d (ap (λ l. e ∷ l) (more (rw d at is) sorted.1))

  -- the value at the key doesn't matter where another is put there
  pub put_again : (es : List (Key × X)) (w : X) (u : Tree) → IsStrictlySortedBy key_cmp (keys_of es)
      → update (parsed_segment_of_key k) (λ _. Some u) (seen_view seen (set_value (is_at (key_cmp k)) es w)) ≡ update (parsed_segment_of_key k) (λ _. Some u) (seen_view seen es)
  unfolding IsStrictlySortedBy
  put_again [] w u h = refl
  put_again (e ∷ es) w u h = by (put_again es w u h.1) (key_cmp k e.0) refl
    where
      by : update (parsed_segment_of_key k) (λ _. Some u) (seen_view seen (set_value (is_at (key_cmp k)) es w)) ≡ update (parsed_segment_of_key k) (λ _. Some u) (seen_view seen es) → (o : Ordering) → key_cmp k e.0 ≡ o
          → update (parsed_segment_of_key k) (λ _. Some u) (seen_view seen (set_value (is_at (key_cmp k)) (e ∷ es) w)) ≡ update (parsed_segment_of_key k) (λ _. Some u) (seen_view seen (e ∷ es))
      by more Less d = let before : compare_segments (parsed_segment_of_key k).segment (segment_of_key e.0) ≡ Less = d in rw (d, before, none_set es w (all_to _ _ (λ y. total-law.trans k e.0 y d) (keys_of es) h.0))
      by more Equal d = let same : compare_segments (parsed_segment_of_key k).segment (segment_of_key e.0) ≡ Equal = d in rw (d, same)
      by more Greater d = let after : compare_segments (parsed_segment_of_key k).segment (segment_of_key e.0) ≡ Greater = d in rw (d, after, more)

-- the node at a key is taken out of a vector
module _ {X : Type 0} (seen : X → Tree) (k : Key) (es : List (Key × X)) (i : ℕ) where
  pub taken_hit : IsHit key_cmp k es i → IsStrictlySortedBy key_cmp (keys_of es) → (x w : X) → option_map (λ e. e.1) (slice_get es i) ≡ Some x
      → Takes k (seen_view seen es) (seen x) (seen_view seen (put_value es i w))
  taken_hit hit sorted x w is =
      let found : Some (seen x) ≡ value_at_key (segment_of_key k) (seen_view seen es) = ap (option_map seen) (sym is ∙ sym (hit_lookup key_cmp k es i hit)) ∙ seen-lookup seen k es in
      record {
        node = rw (← found);
        rest = λ u. rw (← hit_set key_cmp k es i w hit) (put_again seen k es w u sorted);
        ordered = ordered_seen seen es sorted;
      }

  pub taken_gap : (empty : X) → seen empty ≡ uninitialized → IsGap key_cmp k es i → IsStrictlySortedBy key_cmp (keys_of es) → Takes k (seen_view seen es) (seen empty) (seen_view seen es)
  taken_gap empty none gap sorted =
      let missing : None ≡ value_at_key (segment_of_key k) (seen_view seen es) = ap (option_map seen) (sym (gap_lookup key_cmp k es i gap)) ∙ seen-lookup seen k es in
      record { node = rw (none, ← missing); rest = λ u. refl; ordered = ordered_seen seen es sorted }

-- a pair is added to the node at a key, which was lent
module _ {X : Type 0} (seen : X → Tree) (empty : X) (none : seen empty ≡ uninitialized) (k : Key) (es : List (Key × X)) (sorted : IsStrictlySortedBy key_cmp (keys_of es)) (old : X) (lent : old ≡ unwrap_or (lookup (is_at (key_cmp k)) es) empty) where
  or_empty : (o : Option X) → seen (unwrap_or o empty) ≡ unwrap_or (option_map seen o) uninitialized
  or_empty None = none
  or_empty (Some d) = refl

  there : seen old ≡ child (segment_of_key k) (seen_view seen es)
  there = ap seen lent ∙ or_empty _ ∙ ap (λ o. unwrap_or o uninitialized) (seen-lookup seen k es)

  pub at_key : {A : Type 0} (before after : Entries) → seen_view seen es ≡ before → (f : Tree → Option Tree) (new : X) → seen_view seen (insert_entry key_cmp es k new) ≡ after
      → (r : Result A AddError) → AddGives (λ _. seen new) (f (seen old)) r → AddGives (λ _. after) (update (parsed_segment_of_key k) f before) r
  at_key before after was f new is (Ok a) h = rw (← was)
      (put_there (parsed_segment_of_key k) f (seen_view seen es) (ordered_seen seen es sorted) (seen old) there (seen_view seen es) after (seen new) h (λ u. refl) (inserted seen k es new ∙ ap Some is))
  at_key before after was f new is (Err e) h = rw (← was)
      (rejected_too (f (seen old)) _ e (rejected_there (parsed_segment_of_key k) f (seen_view seen es) (ordered_seen seen es sorted) (seen old) there) h)

-- a key above all of some entries goes to their end
module _ (k : Key) (ks : List Key) where
  less_last : (l : Key) (js : List Key) → AllByRecursion (λ y. key_cmp l y ≡ Less) (js ++ k ∷ ks) → key_cmp l k ≡ Less
  less_last l [] h = h.0
  less_last l (j ∷ js) h = less_last l js h.1

  pub above : (l : Key) (js : List Key) → AllByRecursion (λ y. key_cmp l y ≡ Less) (js ++ k ∷ ks) → key_cmp k l ≡ Greater
  above l js h = total-law.antisymm k l ∙ ap ordering_reverse (less_last l js h)

  pub keys_at_end : {X : Type 0} (es : List (Key × X)) (v : X) → IsStrictlySortedBy key_cmp (keys_of es ++ k ∷ ks) → keys_of (insert_entry key_cmp es k v) ++ ks ≡ keys_of es ++ k ∷ ks
  unfolding IsStrictlySortedBy
  keys_at_end [] v h = refl
  keys_at_end (e ∷ es) v h = rw (above e.0 (keys_of es) h.0) (ap (λ l. e.0 ∷ l) (keys_at_end es v h.1))

  pub pushed : {X : Type 0} (es rest : List (Key × X)) (v : X) → IsStrictlySortedBy key_cmp (keys_of es ++ k ∷ ks) → insert_entry key_cmp es k v ++ rest ≡ es ++ (k, v) ∷ rest
  unfolding IsStrictlySortedBy
  pushed [] rest v h = refl
  pushed (e ∷ es) rest v h = rw (above e.0 (keys_of es) h.0) (ap (λ l. e ∷ l) (pushed es rest v h.1))
