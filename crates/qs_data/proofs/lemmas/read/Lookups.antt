-- What a map has under a name is found by two look-ups.
use Rattle.qs_data.proofs.Common.{◌≡◌, ℕ, ◌<◌, ◌^◌, true, false, List, [], ◌∷◌, ◌++◌, Option, Some, None, decimal, Less, Equal, Greater, refl, sym, ap, subst, ltb, ◌∙◌, inl, inr, arith, bytes_eq, is_eq, cases_Bool, false≢true, nat_tests, decimal_injective, Segment, is_same_segment, Tree, Entries, no_entries, entry, found, option_map, ParsedValue, value_at_key, tree_of, NumbersFit, value_in}
use Rattle.std.proofs.lemmas.Cmp.{nat_list_eq_equiv}
use Rattle.qs_spec.proofs.VariantNames.{bytes_equal}
use Rattle.std.specs.Cmp.{nat_cmp_is}
use Rattle.std.proofs.lemmas.Map.Text.{is_eq-slice_cmp}
use Rattle.std.proofs.lemmas.Slice.Eq.{bytes_eq-Decides}
use Rattle.qs_spec.specs.Segment.Segment.{Int, Str}
use Rattle.std.specs.Borrow.{Bor}
use Rattle.qs_tree.specs.tree.Ordered.{IsBefore, AreOrdered}

-- what comes after a key is not that key
absent : (s : Segment) (es : Entries) → IsBefore s es → value_at_key s es ≡ None
absent s no_entries h = refl
absent s (entry k m t es) h = rw h.0 (absent s es h.1)

-- no number comes after a text
no_number : (b : List ℕ) (n : ℕ) (es : Entries) → IsBefore (Str b) es → value_at_key (Int n) es ≡ None
no_number b n no_entries h = refl
no_number b n (entry (Int j) m t es) h = absurd cc
no_number b n (entry (Str c) m t es) h = no_number b n es h.1

abbrev pub list : Option Tree → List Tree
list None = []
list (Some t) = t ∷ []

pub bytes_eq_same : (a b : List ℕ) → a ≡ b → bytes_eq a b ≡ true
bytes_eq_same a b h = (bytes_eq-Decides a b).1 h

number_same : (n j : ℕ) → n ≡ j → is_same_segment (Int n) (Int j) ≡ true
number_same n j h = ap is_eq (sym (nat_cmp_is n j Equal h))

number_other : (n j : ℕ) → (n ≡ j → ⊥) → is_same_segment (Int n) (Int j) ≡ false
number_other n j h = elim (cases_Bool (ltb n j)) [
  | inl is ↦ ap is_eq (sym (nat_cmp_is n j Less (grind (arith, nat_tests))))
  | inr not ↦ let gt : j < n = grind (arith, nat_tests, h) in ap is_eq (sym (nat_cmp_is n j Greater gt))
]

same_text : (b name : List ℕ) → is_same_segment (Str name) (Str b) ≡ bytes_eq b name
same_text b name = is_eq-slice_cmp name b ∙ nat_list_eq_equiv.symm name b

-- a name that is no number
pub found_text : (name : List ℕ) (es : Entries) → AreOrdered es → NumbersFit es → ((n : ℕ) → n < 2 ^ 32 → decimal n ≡ name → ⊥) → found name es ≡ list (value_at_key (Str name) es)
found_text name no_entries o f h = refl
found_text name (entry (Int j) m t es) o f h = elim (cases_Bool (bytes_eq (decimal j) name)) [
  | inl is ↦ absurd (h j f.0 (bytes_equal (decimal j) name is))
  | inr not ↦ rw not (found_text name es o.1 f.1 h)
]
found_text name (entry (Str b) m t es) o f h = elim (cases_Bool (bytes_eq b name)) [
  | inl is ↦
      let before : IsBefore (Str name) es = subst (λ x. IsBefore (Str x) es) (bytes_equal b name is) o.0 in
      let rest : found name es ≡ [] = found_text name es o.1 f.1 h ∙ ap list (absent (Str name) es before) in
      rw (same_text b name, is) (ap (λ ts. t ∷ ts) rest)
  | inr not ↦ rw (same_text b name, not) (found_text name es o.1 f.1 h)
]

-- a name that is a number
pub found_number : (name : List ℕ) (n : ℕ) (es : Entries) → AreOrdered es → NumbersFit es → n < 2 ^ 32 → decimal n ≡ name → found name es ≡ list (value_at_key (Int n) es) ++ list (value_at_key (Str name) es)
found_number name n no_entries o f lt is = refl
found_number name n (entry (Int j) m t es) o f lt is = elim (cases_Bool (bytes_eq (decimal j) name)) [
  | inl here ↦
      let same : n ≡ j = decimal_injective n j (omega arith) (omega (arith, f.0)) (is ∙ sym (bytes_equal (decimal j) name here)) in
      let before : IsBefore (Int n) es = subst (λ x. IsBefore (Int x) es) (sym same) o.0 in
      let rest : found name es ≡ list (value_at_key (Str name) es) = found_number name n es o.1 f.1 lt is ∙ ap (λ r. list r ++ list (value_at_key (Str name) es)) (absent (Int n) es before) in
      rw (number_same n j same, here) (ap (λ ts. t ∷ ts) rest)
  | inr not ↦
      let other : n ≡ j → ⊥ = λ e. false≢true (sym not ∙ bytes_eq_same (decimal j) name (ap decimal (sym e) ∙ is)) in
      rw (number_other n j other, not) (found_number name n es o.1 f.1 lt is)
]
found_number name n (entry (Str b) m t es) o f lt is = elim (cases_Bool (bytes_eq b name)) [
  | inl here ↦
      let before : IsBefore (Str name) es = subst (λ x. IsBefore (Str x) es) (bytes_equal b name here) o.0 in
      let rest : found name es ≡ [] = found_number name n es o.1 f.1 lt is ∙ ap (λ r. list r ++ list (value_at_key (Str name) es)) (no_number b n es o.0) ∙ ap list (absent (Str name) es before) in
      rw (same_text b name, here, no_number b n es o.0) (ap (λ ts. t ∷ ts) rest)
  | inr not ↦ rw (same_text b name, not) (found_number name n es o.1 f.1 lt is)
]

pub value_list : (r : Option (Bor ParsedValue)) (s k : Segment) (es : Entries) → option_map (λ v. tree_of v.now) r ≡ value_at_key s es → s ≡ k → value_in r ≡ list (value_at_key k es)
value_list None s k es h e = ap list (h ∙ ap (λ x. value_at_key x es) e)
value_list (Some v) s k es h e = ap list (h ∙ ap (λ x. value_at_key x es) e)
