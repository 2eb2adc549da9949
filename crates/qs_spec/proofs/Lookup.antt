-- The values whose key has a text are those of two look-ups at most.
use Rattle.std.proofs.Common.{◌≡◌, ℕ, ◌≤◌, Bool, true, false, cond, not, ◌&&◌, List, [], ◌∷◌, ◌++◌, refl, sym, ap, ap₂, ◌∙◌, subst, arith, Option, Some, None, Less, is_eq}
use Rattle.std.specs.Str.{bytes_eq}
use Rattle.std.specs.Fmt.{decimal}
use Rattle.qs_spec.specs.Segment.{Segment, number, is_index, compare_segments, is_same_segment}
use Rattle.qs_spec.specs.Segment.Segment.{Int, Str}
use Rattle.qs_spec.specs.Tree.{Tree, Entries}
use Rattle.qs_spec.specs.Tree.Entries.{entry, no_entries}
use Rattle.qs_spec.specs.Node.{found, value_at_key}
use Rattle.qs_spec.specs.Scalar.{has_leading_zero}
use Rattle.qs_spec.specs.internal.Keys.{printed_index, value_at_index, list_of, AreAbove, AreAscending}
use Rattle.qs_spec.proofs.Booleans.{and_both, not_of}
use Rattle.qs_spec.proofs.Order.{segments_total, is_itself}
use Rattle.qs_spec.proofs.TreeOf.{same_segment}
use Rattle.qs_spec.proofs.SomeAnswers.{tested}
use Rattle.qs_spec.proofs.VariantNames.{bytes_same, bytes_equal}
use Rattle.qs_spec.proofs.Numerals.{printed, digits_of_number, number_of_digits, no_leading_zero}
use Rattle.qs_spec.proofs.KeysBack.{index_below, numeral_of_index, index_of_numeral}

-- nothing stands at a key below all others
none_at : (k : Segment) (es : Entries) → AreAbove k es → value_at_key k es ≡ None
none_at k no_entries h = refl
none_at k (entry j m t es) h = ap (λ o. cond (is_eq o) (Some t) (value_at_key k es)) h.0 ∙ none_at k es h.1

above_more : (j k : Segment) (es : Entries) → compare_segments j k ≡ Less → AreAbove k es → AreAbove j es
above_more j k no_entries e h = tt
above_more j k (entry i m t es) e h = (segments_total.trans j k i e h.0, above_more j k es e h.1)

-- a number is the index that its text prints, and an index that a text prints is printed so
index_printed : (n : ℕ) → n ≤ 4294967295 → printed_index (decimal n) ≡ Some n
index_printed n l =
    let d = digits_of_number n (omega arith) in
    let v = number_of_digits n (omega arith) in
    ap₂ (λ a b. cond (a && not b) (Some (number (decimal n))) None) (index_of_numeral (decimal n) n d v l) (no_leading_zero n (omega arith)) ∙ ap Some v

printed_back : (name : List ℕ) (n : ℕ) → printed_index name ≡ Some n → decimal n ≡ name
printed_back name n e =
    let h = tested (is_index name && not (has_leading_zero name)) (number name) n e in
    let p = and_both (is_index name) (not (has_leading_zero name)) h.0 in
    ap decimal (sym h.1) ∙ printed name (numeral_of_index name p.0) (not_of (has_leading_zero name) p.1) (omega (arith, index_below name p.0))

module _ (name : List ℕ) where
  abbrev Both : Entries → Type 0
  Both es = found name es ≡ list_of (value_at_index (printed_index name) es) ++ list_of (value_at_key (Str name) es)

  at_index : (n : ℕ) (m : Bool) (t : Tree) (es : Entries) → n ≤ 4294967295 → AreAbove (Int n) es → Both es → Both (entry (Int n) m t es)
  at_index n m t es l above h = by (bytes_eq (decimal n) name) refl
    where
      other : (o : Option ℕ) → printed_index name ≡ o → bytes_eq (decimal n) name ≡ false → value_at_index o (entry (Int n) m t es) ≡ value_at_index o es
      other None p e = refl
      other (Some k) p e = each (is_same_segment (Int k) (Int n)) refl
        where
          each : (b : Bool) → is_same_segment (Int k) (Int n) ≡ b → cond b (Some t) (value_at_key (Int k) es) ≡ value_at_key (Int k) es
          each true d =
              let same : Int k ≡ Int n = same_segment (Int k) (Int n) d in
              let k_n : k ≡ n = cc in
              let w = sym e ∙ ap (λ j. bytes_eq (decimal j) name) (sym k_n) ∙ ap (λ s. bytes_eq s name) (printed_back name k p) ∙ bytes_same name in cc
          each false d = refl

      by : (b : Bool) → bytes_eq (decimal n) name ≡ b → cond b (t ∷ found name es) (found name es) ≡ list_of (value_at_index (printed_index name) (entry (Int n) m t es)) ++ list_of (value_at_key (Str name) es)
      by true e =
          let p : printed_index name ≡ Some n = ap printed_index (sym (bytes_equal (decimal n) name e)) ∙ index_printed n l in
          ap (λ l. t ∷ l) (h ∙ ap (λ o. list_of (value_at_index o es) ++ list_of (value_at_key (Str name) es)) p ∙ ap (λ o. list_of o ++ list_of (value_at_key (Str name) es)) (none_at (Int n) es above))
          ∙ sym (ap (λ o. list_of (value_at_index o (entry (Int n) m t es)) ++ list_of (value_at_key (Str name) es)) p
          ∙ ap (λ b. list_of (cond b (Some t) (value_at_key (Int n) es)) ++ list_of (value_at_key (Str name) es)) (is_itself (Int n)))
      by false e = h ∙ ap (λ o. list_of o ++ list_of (value_at_key (Str name) es)) (sym (other (printed_index name) refl e))

  at_text : (s : List ℕ) (m : Bool) (t : Tree) (es : Entries) → AreAbove (Str s) es → Both es → Both (entry (Str s) m t es)
  at_text s m t es above h = by (bytes_eq s name) refl
    where
      index : (o : Option ℕ) → value_at_index o (entry (Str s) m t es) ≡ value_at_index o es
      index None = refl
      index (Some k) = refl

      no_index : (o : Option ℕ) → value_at_index o es ≡ None
      no_index None = refl
      no_index (Some k) = none_at (Int k) es (above_more (Int k) (Str s) es refl above)

      by : (b : Bool) → bytes_eq s name ≡ b → cond b (t ∷ found name es) (found name es) ≡ list_of (value_at_index (printed_index name) (entry (Str s) m t es)) ++ list_of (value_at_key (Str name) (entry (Str s) m t es))
      by true e =
          let same : s ≡ name = bytes_equal s name e in
          let none : value_at_key (Str name) es ≡ None = none_at (Str name) es (subst (λ (b : List ℕ). AreAbove (Str b) es) same above) in
          ap (λ l. t ∷ l) (h ∙ ap₂ (λ o p. list_of o ++ list_of p) (no_index (printed_index name)) none)
          ∙ sym (ap₂ (λ (o p : Option Tree). list_of o ++ list_of p) (index (printed_index name) ∙ no_index (printed_index name))
          (ap (λ (b : List ℕ). cond (is_same_segment (Str name) (Str b)) (Some t) (value_at_key (Str name) es)) same ∙ ap (λ b. cond b (Some t) (value_at_key (Str name) es)) (is_itself (Str name))))
      by false e = h ∙ ap₂ (λ (o p : Option Tree). list_of o ++ list_of p) (sym (index (printed_index name))) (sym (ap (λ b. cond b (Some t) (value_at_key (Str name) es)) (other (is_same_segment (Str name) (Str s)) refl)))
        where
          other : (b : Bool) → is_same_segment (Str name) (Str s) ≡ b → is_same_segment (Str name) (Str s) ≡ false
          other true d =
              let same : Str name ≡ Str s = same_segment (Str name) (Str s) d in
              let n_s : name ≡ s = cc in
              let w = sym e ∙ ap (λ b. bytes_eq s b) n_s ∙ bytes_same s in cc
          other false d = d

  pub found_by_lookup : (es : Entries) → AreAscending es → found name es ≡ list_of (value_at_index (printed_index name) es) ++ list_of (value_at_key (Str name) es)
  found_by_lookup no_entries a = by (printed_index name)
    where
      by : (o : Option ℕ) → [] ≡ list_of (value_at_index o no_entries) ++ []
      by None = refl
      by (Some k) = refl
  found_by_lookup (entry (Int n) m t es) a = at_index n m t es a.0 a.1 (found_by_lookup es a.2)
  found_by_lookup (entry (Str s) m t es) a = at_text s m t es a.1 (found_by_lookup es a.2)
