use Rattle.qs_data.proofs.Common.{◌≡◌, ℕ, List, [], ◌∷◌, Bool, true, false, ◌||◌, not, refl, sym, ap, ap₂, ◌∙◌, Ordering, Less, Equal, Greater, is_eq, nat_cmp, list_any, bytes_eq, Vec, Global}
use Rattle.std.specs.Cmp.Lexicographic.{slice_cmp}
use Rattle.std.specs.Ordering.{match_ordering}
use Rattle.std.specs.BTreeSet.{insert_key}
use Rattle.std.proofs.lemmas.Cmp.{nat_list_cmp_total, eq_by_cmp_equiv}
use Rattle.std.proofs.lemmas.Map.Lookups.{exact_bytes}
use Rattle.std.proofs.lemmas.Map.Text.{is_eq-slice_cmp}
use Rattle.qs_data.proofs.data.plain.add_text.Goals as goal

abbrev Bytes : Type 0
Bytes = Vec ℕ Global

abbrev order : Bytes → Bytes → Ordering
order x y = slice_cmp nat_cmp x.items y.items

abbrev holds : (List ℕ → Bool) → List Bytes → Bool
holds p = list_any (λ u. p u.items)

found : (t : List ℕ) (ks : List Bytes) → holds (λ s. is_eq (slice_cmp nat_cmp t s)) ks ≡ holds (λ s. bytes_eq s t) ks
found t [] = refl
found t (u ∷ ks) = ap₂ ◌||◌ ((eq_by_cmp_equiv nat_list_cmp_total).symm t u.items ∙ is_eq-slice_cmp u.items t) (found t ks)

inserted : (p : List ℕ → Bool) (k : Bytes) (ks : List Bytes) → holds p (insert_key order ks k) ≡ (p k.items || holds p ks)
inserted p k [] = refl
inserted p k (x ∷ xs) = by (inserted p k xs) (order k x) refl
  where
    by : holds p (insert_key order xs k) ≡ (p k.items || holds p xs) → (o : Ordering) → order k x ≡ o → holds p (match_ordering o (k ∷ x ∷ xs) (x ∷ xs) (x ∷ insert_key order xs k)) ≡ (p k.items || (p x.items || holds p xs))
    by more Less e = refl
    by more Equal e = twice (p x.items) _ ∙ ap (λ s. p s || (p x.items || holds p xs)) (sym (exact_bytes k.items x.items e))
      where
        twice : (a b : Bool) → (a || b) ≡ (a || (a || b))
        twice true b = refl
        twice false b = refl
    by more Greater e = ap (λ b. p x.items || b) more ∙ turned (p x.items) (p k.items) _
      where
        turned : (a b c : Bool) → (a || (b || c)) ≡ (b || (a || c))
        turned true true c = refl
        turned true false c = refl
        turned false true c = refl
        turned false false c = refl

pub returns-clause-added : goal.returns-clause-added
returns-clause-added c = c.in_ok-insert.ensures.added ∙ ap not (ap (λ t. list_any (λ (u : Bytes). is_eq (slice_cmp nat_cmp t u.items)) c.args.texts.now.keys) c.in_ok-from_slice.ensures.items ∙ found c.args.text.now c.args.texts.now.keys)

pub returns-clause-set : goal.returns-clause-set
returns-clause-set c t = ap (list_any (λ (u : Bytes). bytes_eq u.items t)) c.in_ok-insert.ensures.keys ∙ inserted (λ s. bytes_eq s t) c.in_ok-from_slice.field-0 c.args.texts.now.keys ∙ ap (λ s. bytes_eq s t || list_any (λ (u : Bytes). bytes_eq u.items t) c.args.texts.now.keys) c.in_ok-from_slice.ensures.items
