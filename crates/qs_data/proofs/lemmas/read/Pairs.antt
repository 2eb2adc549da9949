-- The pairs of a map, one after the other.
use Rattle.qs_data.proofs.Common.{◌≡◌, ℕ, zero, suc, ◌+◌, ◌≤◌, ◌&&◌, false, List, [], ◌∷◌, ◌++◌, append-nil, slice_get, length, Option, Some, None, refl, ap, ◌∙◌, option_and_then, is_utf8, key_data, ParsedSegment, segment_text, KeyShape, Tree, Entries, no_entries, entry, under_empty, Reader, read_pairs, with_front, entry_list, entries_after, is_text, entries_are_text}
use Rattle.qs_spec.specs.Data.{Data}
use Rattle.qs_data.proofs.lemmas.read.Entries.{after_some, after_none, after_all}
use Rattle.qs_data.proofs.lemmas.read.Errors.{and_left, and_right}
use Rattle.qs_data.proofs.lemmas.read.Steps.{before, before-front}

after_bad : (i : ℕ) (es : Entries) → entries_are_text (entries_after i es) ≡ false → entries_are_text es ≡ false
after_bad zero es h = h
after_bad (suc i) no_entries h = h
after_bad (suc i) (entry k m t es) h = and_right (is_utf8 (segment_text k) && is_text t) (entries_are_text es) (after_bad i es h)

-- a key or a value that isn't text stands among entries that aren't
module _ (i : ℕ) (es : Entries) (x : ParsedSegment × Tree) (here : slice_get (entry_list es) i ≡ Some x) where
  pub key_bad : is_utf8 (segment_text x.0.segment) ≡ false → entries_are_text es ≡ false
  key_bad n =
      let rest = entries_are_text (entries_after (i + 1) es) in
      after_bad i es (ap entries_are_text (after_some i es x here) ∙ and_left (is_utf8 (segment_text x.0.segment) && is_text x.1) rest (and_left (is_utf8 (segment_text x.0.segment)) (is_text x.1) n))

  pub value_bad : is_text x.1 ≡ false → entries_are_text es ≡ false
  value_bad n =
      let rest = entries_are_text (entries_after (i + 1) es) in
      after_bad i es (ap entries_are_text (after_some i es x here) ∙ and_left (is_utf8 (segment_text x.0.segment) && is_text x.1) rest (and_right (is_utf8 (segment_text x.0.segment)) (is_text x.1) n))

-- what is read of a key and a value
abbrev with_pair : Option (List (Data × Data)) → Option Data → Option Data → Option (List (Data × Data))
with_pair rest value key = option_and_then (λ a. option_and_then (λ d. with_front (a, d) rest) value) key

no_value : (rest : Option (List (Data × Data))) (key : Option Data) → with_pair rest None key ≡ None
no_value rest None = refl
no_value rest (Some a) = refl

module _ (k : KeyShape) (r : Reader) (es : Entries) (i : ℕ) (ws : List (Data × Data)) where
  pub pairs_end : slice_get (entry_list es) i ≡ None → before ws (read_pairs k r (entries_after i es)) ≡ Some ws
  pairs_end h = ap (λ e. before ws (read_pairs k r e)) (after_none i es h) ∙ ap Some (append-nil ws)

  pub pairs_all : length (entry_list es) ≤ i → before ws (read_pairs k r (entries_after i es)) ≡ Some ws
  pairs_all h = ap (λ e. before ws (read_pairs k r e)) (after_all i es h) ∙ ap Some (append-nil ws)

  module _ (x : ParsedSegment × Tree) (here : slice_get (entry_list es) i ≡ Some x) where
    abbrev rest : Option (List (Data × Data))
    rest = read_pairs k r (entries_after (i + 1) es)

    pairs_at : before ws (read_pairs k r (entries_after i es)) ≡ before ws (with_pair rest (r x.1) (key_data k (segment_text x.0.segment)))
    pairs_at = ap (λ e. before ws (read_pairs k r e)) (after_some i es x here)

    pub pairs_more : (a d : Data) → key_data k (segment_text x.0.segment) ≡ Some a → r x.1 ≡ Some d → before ws (read_pairs k r (entries_after i es)) ≡ before (ws ++ (a, d) ∷ []) rest
    pairs_more a d ha hd =
        pairs_at ∙ ap (λ key. before ws (with_pair rest (r x.1) key)) ha ∙ ap (λ value. before ws (with_pair rest value (Some a))) hd ∙ before-front ws (a, d) rest

    pub pairs_no_key : key_data k (segment_text x.0.segment) ≡ None → before ws (read_pairs k r (entries_after i es)) ≡ None
    pairs_no_key h = pairs_at ∙ ap (λ key. before ws (with_pair rest (r x.1) key)) h

    pub pairs_no_value : r x.1 ≡ None → before ws (read_pairs k r (entries_after i es)) ≡ None
    pairs_no_value h =
        pairs_at ∙ ap (λ value. before ws (with_pair rest value (key_data k (segment_text x.0.segment)))) h ∙ ap (before ws) (no_value rest (key_data k (segment_text x.0.segment)))

-- a value under the empty key
pub lone_no_key : (k : KeyShape) (r : Reader) (t : Tree) → key_data k [] ≡ None → read_pairs k r (under_empty t) ≡ None
lone_no_key k r t h = ap (with_pair (Some []) (r t)) h
