-- A part of a tree that is written as JSON, and the whole.
use Rattle.std.proofs.Common.{◌≡◌, ◌⊎◌, inl, inr, ℕ, zero, suc, ◌+◌, ◌≤◌, Bool, true, false, ◌&&◌, List, [], ◌∷◌, ◌++◌, ◌==◌, length, slice_get, Some, None, Result, Ok, Err, refl, sym, ap, subst, ◌∙◌, append_assoc, arith, rules}
use Rattle.std.proofs.lemmas.Bool.Decides.{nat_tests}
use Rattle.std.proofs.lemmas.Option.{same_Some}
use Rattle.std.specs.Prelude.{nat_lt, IsErrAnd}
use Rattle.std.specs.Str.{is_utf8}
use Rattle.json.specs.Token.{Token, key}
use Rattle.json.specs.Tree.{json_tokens, items_tokens, members_tokens}
use Rattle.qs_spec.proofs.Booleans.{and_both}
use Rattle.qs_spec.specs.Leaf.{Leaf, leaf_text}
use Rattle.qs_spec.specs.Leaf.Leaf.{NoValue, Null}
use Rattle.qs_spec.specs.Node.{is_place}
use Rattle.qs_spec.specs.Segment.{Segment, ParsedSegment, segment_text}
use Rattle.qs_spec.specs.Segment.Segment.{Int, Str}
use Rattle.qs_spec.specs.Tree.{Tree, Entries}
use Rattle.qs_spec.specs.Tree.Tree.{leaf, uninitialized}
use Rattle.qs_spec.specs.Tree.Entries.{no_entries, entry}
use Rattle.qs_tree.specs.internal.tree.NodeCount.{node_count, entries_node_count}
use Rattle.qs_tree.specs.tree.Views.{tree_of, entry_list}
use Rattle.qs_tree.specs.declared.tree.value.ParsedValue as value
use Rattle.qs_tree.specs.declared.tree.value.ParsedValue.{ParsedValue, the_lemmas}
use Rattle.qs_data.proofs.lemmas.read.Entries.{after_some, after_none, after_all}
use Rattle.qs_data.proofs.lemmas.read.Errors.{and_left, and_right}
use Rattle.qs_data.proofs.lemmas.read.Numbers.{decimal_text, empty_text}
use Rattle.qs_data.specs.declared.read.error.ReadError.{ReadError}
use Rattle.qs_data.specs.declared.read.error.ReadError.TheVariants.{Custom, Utf8, OutOfMemory}
use Rattle.qs_data.specs.read.Entries.{entries_after}
use Rattle.qs_data.specs.read.TreeText.{is_text, entries_are_text}
use Rattle.qs_c.specs.Trees.{json_of_tree, json_of_values, json_of_entries, are_places, is_alone, has_names, values_have_names, entries_have_names}
use Rattle.qs_c.specs.internal.Trees.{Fails, Passes}

-- an error of a part is one of the whole
fails_more : (t n u m : Bool) (e : ReadError) → (t ≡ false → u ≡ false) → (n ≡ false → m ≡ false) → Fails t n e → Fails u m e
fails_more true n u m (Custom x) f g h = and_right u m (g h)
fails_more false n u m (Custom x) f g h = and_left u m (f refl)
fails_more t n u m (Utf8 c) f g h = f h
fails_more t n u m OutOfMemory f g h = tt

pub part_fails : {A : Type 0} (r : Result A ReadError) (e : ReadError) (t n u m : Bool) → IsErrAnd r (λ y. y ≡ e) → Fails t n e → (t ≡ false → u ≡ false) → (n ≡ false → m ≡ false) → Passes u m r
part_fails (Ok a) e t n u m is h f g = absurd is
part_fails (Err y) e t n u m is h f g = subst (Fails u m) (sym is) (fails_more t n u m e f g h)

-- the text of an empty leaf is UTF-8
empty_leaf : (n : Tree) (l : Leaf) → leaf_text l ≡ [] → n ≡ leaf l → (is_text n ≡ true) × (has_names n ≡ true)
empty_leaf n l empty is = (ap is_text is ∙ ap is_utf8 empty ∙ empty_text, ap has_names is)

pub null_passes : (n : ParsedValue) → n ≡ value.Null → (is_text (tree_of n) ≡ true) × (has_names (tree_of n) ≡ true)
null_passes n is = empty_leaf (tree_of n) Null refl (ap tree_of is ∙ search (rules, the_lemmas))

pub nothing_passes : (n : ParsedValue) → n ≡ value.NoValue ⊎ n ≡ value.Uninitialized → (is_text (tree_of n) ≡ true) × (has_names (tree_of n) ≡ true)
nothing_passes n (inl is) = empty_leaf (tree_of n) NoValue refl (ap tree_of is ∙ search (rules, the_lemmas))
nothing_passes n (inr is) =
    let seen : tree_of n ≡ uninitialized = ap tree_of is ∙ search (rules, the_lemmas) in
    (ap is_text seen, ap has_names seen)

-- the digits of an index are UTF-8
place_text : (i : ℕ) (k : Segment) → is_place i k ≡ true → is_utf8 (segment_text k) ≡ true
place_text i (Int n) h = let small = (and_both (n == i) (nat_lt n 4294967295) h).1 in decimal_text n (grind (arith, nat_tests))
place_text i (Str bytes) h = absurd cc

-- a value among the entries of a map
pub entry_counts : (i : ℕ) (es : Entries) (x : ParsedSegment × Tree) → Some x ≡ slice_get (entry_list es) i → node_count x.1 ≤ entries_node_count es
entry_counts i no_entries x h = absurd cc
entry_counts zero (entry k m t es) x h =
    let first : ParsedSegment × Tree = (record { segment = k; escaped = m }, t) in
    omega (arith, ap (λ (y : ParsedSegment × Tree). node_count y.1) (same_Some first x (sym h)))
entry_counts (suc i) (entry k m t es) x h = omega (arith, entry_counts i es x h)

-- nothing is after the last entry
pub nothing_left : (i : ℕ) (es : Entries) → (length (entry_list es) ≤ i) ⊎ (None ≡ slice_get (entry_list es) i) → entries_after i es ≡ no_entries
nothing_left i es (inl beyond) = after_all i es beyond
nothing_left i es (inr none) = after_none i es (sym none)

-- the entry at an index, and the entries from there on
module _ (i : ℕ) (es : Entries) (x : ParsedSegment × Tree) (here : Some x ≡ slice_get (entry_list es) i) where
  abbrev rest : Entries
  rest = entries_after (i + 1) es

  abbrev name : List ℕ
  name = segment_text x.0.segment

  from_here : entries_after i es ≡ entry x.0.segment x.0.escaped x.1 rest
  from_here = after_some i es x (sym here)

  pub places_here : are_places i (entries_after i es) ≡ (is_place i x.0.segment && are_places (i + 1) rest)
  places_here = ap (are_places i) from_here

  pub values_tokens : (ts : List Token) → ts ++ items_tokens (json_of_values (entries_after i es)) ≡ (ts ++ json_tokens (json_of_tree x.1)) ++ items_tokens (json_of_values rest)
  values_tokens ts = ap (λ e. ts ++ items_tokens (json_of_values e)) from_here ∙ sym (append_assoc ts (json_tokens (json_of_tree x.1)) (items_tokens (json_of_values rest)))

  pub entries_tokens : (ts : List Token) → ts ++ members_tokens (json_of_entries (entries_after i es)) ≡ ((ts ++ key name ∷ []) ++ json_tokens (json_of_tree x.1)) ++ members_tokens (json_of_entries rest)
  entries_tokens ts =
      let json = json_tokens (json_of_tree x.1) in
      let more = members_tokens (json_of_entries rest) in
      ap (λ e. ts ++ members_tokens (json_of_entries e)) from_here ∙ sym (append_assoc ts (key name ∷ []) (json ++ more)) ∙ sym (append_assoc (ts ++ key name ∷ []) json more)

  pub values_left : has_names x.1 ≡ true → values_have_names (entries_after i es) ≡ values_have_names rest
  values_left v = ap values_have_names from_here ∙ ap (λ b. b && values_have_names rest) v

  pub names_left : is_alone es x.0.segment ≡ true → has_names x.1 ≡ true → entries_have_names es (entries_after i es) ≡ entries_have_names es rest
  names_left k v = ap (entries_have_names es) from_here ∙ ap (λ b. (b && has_names x.1) && entries_have_names es rest) k ∙ ap (λ b. b && entries_have_names es rest) v

  -- of places
  module _ (places : are_places i (entries_after i es) ≡ true) where
    both : (is_place i x.0.segment ≡ true) × (are_places (i + 1) rest ≡ true)
    both = and_both (is_place i x.0.segment) (are_places (i + 1) rest) (sym places_here ∙ places)

    pub place_is_text : is_utf8 name ≡ true
    place_is_text = place_text i x.0.segment both.0

    pub places_left : are_places (i + 1) rest ≡ true
    places_left = both.1

  -- where all entries before it are text
  module _ (text : entries_are_text es ≡ entries_are_text (entries_after i es)) where
    abbrev here_text : Bool
    here_text = is_utf8 name && is_text x.1

    text_here : entries_are_text es ≡ (here_text && entries_are_text rest)
    text_here = text ∙ ap entries_are_text from_here

    pub text_left : is_utf8 name ≡ true → is_text x.1 ≡ true → entries_are_text es ≡ entries_are_text rest
    text_left k v = text_here ∙ ap (λ b. (b && is_text x.1) && entries_are_text rest) k ∙ ap (λ b. b && entries_are_text rest) v

    key_no_text : is_utf8 name ≡ false → entries_are_text es ≡ false
    key_no_text bad = text_here ∙ and_left here_text (entries_are_text rest) (and_left (is_utf8 name) (is_text x.1) bad)

    value_no_text : is_text x.1 ≡ false → entries_are_text es ≡ false
    value_no_text bad = text_here ∙ and_left here_text (entries_are_text rest) (and_right (is_utf8 name) (is_text x.1) bad)

    -- an error of its key or its value
    module _ {A : Type 0} (r : Result A ReadError) (e : ReadError) (is : IsErrAnd r (λ y. y ≡ e)) where
      pub item_fails : values_have_names es ≡ values_have_names (entries_after i es) → Fails (is_text x.1) (has_names x.1) e → Passes (entries_are_text es) (values_have_names es) r
      item_fails names h =
          part_fails r e (is_text x.1) (has_names x.1) (entries_are_text es) (values_have_names es) is h value_no_text
          (λ bad. names ∙ ap values_have_names from_here ∙ and_left (has_names x.1) (values_have_names rest) bad)

      module _ (names : entries_have_names es es ≡ entries_have_names es (entries_after i es)) where
        abbrev here_names : Bool
        here_names = is_alone es x.0.segment && has_names x.1

        names_here : entries_have_names es es ≡ (here_names && entries_have_names es rest)
        names_here = names ∙ ap (entries_have_names es) from_here

        pub key_fails : Fails (is_utf8 name) (is_alone es x.0.segment) e → Passes (entries_are_text es) (entries_have_names es es) r
        key_fails h =
            part_fails r e (is_utf8 name) (is_alone es x.0.segment) (entries_are_text es) (entries_have_names es es) is h key_no_text
            (λ bad. names_here ∙ and_left here_names (entries_have_names es rest) (and_left (is_alone es x.0.segment) (has_names x.1) bad))

        pub value_fails : Fails (is_text x.1) (has_names x.1) e → Passes (entries_are_text es) (entries_have_names es es) r
        value_fails h =
            part_fails r e (is_text x.1) (has_names x.1) (entries_are_text es) (entries_have_names es es) is h value_no_text
            (λ bad. names_here ∙ and_left here_names (entries_have_names es rest) (and_right (is_alone es x.0.segment) (has_names x.1) bad))
