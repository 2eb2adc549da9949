-- Maps come back from data that is the same as theirs, in any order.
use Rattle.std.proofs.Common.{ap, ◌∙◌, refl, sym, subst, ⊎_elim}
use Rattle.std.proofs.lemmas.Bool.{cases_Bool, cond-false, false≢true}
use Rattle.std.proofs.lemmas.Slice.Eq.{bytes_eq-Decides}
use Rattle.std.proofs.lemmas.Map.Text.{is_eq-slice_cmp}
use mathlib.Core.Path.{fun_ext}
use Rattle.std.specs.Prelude.{◌≡◌, ℕ, Bool, true, false, List, [], ◌∷◌, map, Option, Some, None, option_map, option_and_then, cond, string_bytes}
use Rattle.std.specs.Str.{bytes_eq}
use Rattle.std.specs.Ordering.{is_eq, nat_cmp}
use Rattle.std.specs.Cmp.Lexicographic.{slice_cmp}
use Rattle.std.specs.BTreeMap.{BTreeMap, is_at}
use Rattle.std.specs.Map.{lookup}
use Rattle.std.specs.declared.string.String.{String}
use Rattle.std.specs.declared.alloc.Global.{Global}
use Rattle.qs_spec.specs.Data as d
use Rattle.qs_spec.specs.Data.{Data, Pairs, no_pairs, one_pair, pairs_of}
use Rattle.serde_qs.specs.ComesBack.{ComesBack}
use Rattle.serde_qs.specs.Maps.{entry_data, values_by_text, nowhere, with_value, pairs_onto, mapping_in}
use Rattle.serde_qs.specs.internal.Booleans.{both_hold}
use Rattle.serde_qs.specs.internal.Fitting.{pair_parts}
use Rattle.qs_spec.specs.Plain.{are_plain_pairs, is_plain, written_keys_differ}
use Rattle.qs_spec.specs.Same.{Same, SamePairs, IsNoKey, KeysDiffer, IsWith}

abbrev StringPairs : Type 0 → Type 0
StringPairs A = List (String Global × A)

abbrev pairs_for : {A : Type 0} → (A → Data) → StringPairs A → Pairs
pairs_for datum es = pairs_of (map (entry_data datum) es)

-- two values at keys that differ, put in either order

swap_conds : {X : Type 0} (a b : Bool) (x y r : X) → (a ≡ true → b ≡ true → ⊥) → cond a x (cond b y r) ≡ cond b y (cond a x r)
swap_conds true true x y r n = absurd (n refl refl)
swap_conds true false x y r n = refl
swap_conds false b x y r n = refl

puts_swap : {V : Type 0} (k l : List ℕ) (v w : V) (f : List ℕ → Option V) → (k ≡ l → ⊥) → with_value k v (with_value l w f) ≡ with_value l w (with_value k v f)
puts_swap k l v w f n = fun_ext (λ t. swap_conds (bytes_eq k t) (bytes_eq l t) (Some v) (Some w) (f t) (λ p q. n ((bytes_eq-Decides k t).0 p ∙ sym ((bytes_eq-Decides l t).0 q))))

-- a pair that is taken out may as well be put first

onto_value : {V : Type 0} (m : Data → Option V) (k l : List ℕ) (v : V) (r : Option V) (ps qs : Pairs) → (k ≡ l → ⊥)
    → ((f : List ℕ → Option V) → pairs_onto m f ps ≡ pairs_onto m (with_value k v f) qs) → (f : List ℕ → Option V)
    → option_and_then (λ g. pairs_onto m g ps) (option_map (λ w. with_value l w f) r) ≡ option_and_then (λ g. pairs_onto m g qs) (option_map (λ w. with_value l w (with_value k v f)) r)
onto_value m k l v None ps qs n rest f = refl
onto_value m k l v (Some w) ps qs n rest f = rest (with_value l w f) ∙ ap (λ g. pairs_onto m g qs) (puts_swap k l v w f n)

later_onto : {V : Type 0} (m : Data → Option V) (k : List ℕ) (v : V) (l x : Data) (ps qs : Pairs) → (d.text k ≡ l → ⊥)
    → ((f : List ℕ → Option V) → pairs_onto m f ps ≡ pairs_onto m (with_value k v f) qs) → (f : List ℕ → Option V)
    → pairs_onto m f (one_pair l x ps) ≡ pairs_onto m (with_value k v f) (one_pair l x qs)
later_onto m k v (d.text l) x ps qs n rest f = onto_value m k l v (m x) ps qs (λ e. n (ap d.text e)) rest f
later_onto m k v d.unit x ps qs n rest f = refl
later_onto m k v d.none x ps qs n rest f = refl
later_onto m k v (d.some e) x ps qs n rest f = refl
later_onto m k v (d.boolean b) x ps qs n rest f = refl
later_onto m k v (d.unsigned z) x ps qs n rest f = refl
later_onto m k v (d.signed z) x ps qs n rest f = refl
later_onto m k v (d.character c) x ps qs n rest f = refl
later_onto m k v (d.bytes b) x ps qs n rest f = refl
later_onto m k v (d.sequence es) x ps qs n rest f = refl
later_onto m k v (d.tuple es) x ps qs n rest f = refl
later_onto m k v (d.mapping es) x ps qs n rest f = refl
later_onto m k v (d.struct es) x ps qs n rest f = refl
later_onto m k v (d.newtype e) x ps qs n rest f = refl
later_onto m k v (d.unit_variant t) x ps qs n rest f = refl
later_onto m k v (d.newtype_variant t e) x ps qs n rest f = refl
later_onto m k v (d.tuple_variant t es) x ps qs n rest f = refl
later_onto m k v (d.struct_variant t es) x ps qs n rest f = refl

other_key : {k e l : Data} {qs rest : Pairs} → IsWith k e qs rest → IsNoKey l qs → k ≡ l → ⊥
other_key IsWith.here n p = n.0 (sym p)
other_key (IsWith.later w) n p = other_key w n.1 p

no_key_left : (l : Data) {k e : Data} {qs rest : Pairs} → IsWith k e qs rest → IsNoKey l qs → IsNoKey l rest
no_key_left l IsWith.here n = n.1
no_key_left l (IsWith.later w) n = (n.0, no_key_left l w n.1)

differ_left : {k e : Data} {qs rest : Pairs} → IsWith k e qs rest → KeysDiffer qs → KeysDiffer rest
differ_left IsWith.here n = n.1
differ_left (IsWith.later {j} w) n = (no_key_left j w n.0, differ_left w n.1)

taken_onto : {V : Type 0} (m : Data → Option V) (k : List ℕ) (e : Data) (v : V) → m e ≡ Some v → {qs rest : Pairs} → IsWith (d.text k) e qs rest → KeysDiffer qs
    → (f : List ℕ → Option V) → pairs_onto m f qs ≡ pairs_onto m (with_value k v f) rest
taken_onto m k e v h (IsWith.here {ps}) n f = ap (λ r. option_and_then (λ g. pairs_onto m g ps) (option_map (λ w. with_value k w f) r)) h
taken_onto m k e v h (IsWith.later {j} {e = x} {ps} {qs} w) n f = later_onto m k v j x ps qs (other_key w n.0) (taken_onto m k e v h w n.1) f

-- the values of entries, put one after another

abbrev over : {A V : Type 0} → (A → V) → StringPairs A → (List ℕ → Option V) → List ℕ → Option V
over value [] f = f
over value (x ∷ es) f = over value es (with_value (string_bytes x.0) (value x.1) f)

pairs_back : {A V : Type 0} (datum : A → Data) (meaning : Data → Option V) (value : A → V) → ComesBack datum meaning value
    → (is_form : Bool) (es : StringPairs A) (qs : Pairs) (f : List ℕ → Option V) → are_plain_pairs is_form (pairs_for datum es) ≡ true → KeysDiffer qs → SamePairs (pairs_for datum es) qs
    → pairs_onto meaning f qs ≡ Some (over value es f)
pairs_back datum meaning value back is_form [] _ f h n SamePairs.pairs_end = refl
pairs_back datum meaning value back is_form (x ∷ es) qs f h n (SamePairs.pairs_more {k} {d = c} {e} {ps} {rest} p w more) =
    let parts = pair_parts is_form (d.text (string_bytes x.0)) (datum x.1) (pairs_for datum es) h in
    taken_onto meaning (string_bytes x.0) e (value x.1) (back is_form x.1 e parts.0 p) w n f
    ∙ pairs_back datum meaning value back is_form es rest (with_value (string_bytes x.0) (value x.1) f) parts.1 (differ_left w n) more

-- if keys differ, a look-up finds these values

abbrev or_else : {V : Type 0} → Option V → Option V → Option V
or_else (Some v) r = Some v
or_else None r = r

or_none : {V : Type 0} (r : Option V) → or_else r None ≡ r
or_none (Some v) = refl
or_none None = refl

abbrev found : {A : Type 0} → List ℕ → StringPairs A → Option A
found t es = lookup (is_at (λ k. slice_cmp nat_cmp t (string_bytes k))) es

differing : (a b : List ℕ) → (a ≡ b → ⊥) → bytes_eq a b ≡ false
differing a b n = ⊎_elim (λ y. absurd (n ((bytes_eq-Decides a b).0 y))) (λ f. f) (cases_Bool (bytes_eq a b))

none_found : {A : Type 0} (datum : A → Data) (k : List ℕ) (es : StringPairs A) → IsNoKey (d.text k) (pairs_for datum es) → found k es ≡ None
none_found datum k [] n = refl
none_found datum k (x ∷ es) n =
    cond-false (is_eq (slice_cmp nat_cmp k (string_bytes x.0))) (Some x.1) (found k es) (is_eq-slice_cmp k (string_bytes x.0) ∙ differing k (string_bytes x.0) (λ e. n.0 (ap d.text e)))
    ∙ none_found datum k es n.1

same_test : (a b : List ℕ) → bytes_eq a b ≡ is_eq (slice_cmp nat_cmp b a)
same_test a b =
    ⊎_elim
    (λ y. y ∙ sym (is_eq-slice_cmp b a ∙ (bytes_eq-Decides b a).1 (sym ((bytes_eq-Decides a b).0 y))))
    (λ f. f ∙ sym (is_eq-slice_cmp b a ∙ differing b a (λ e. false≢true (sym f ∙ (bytes_eq-Decides a b).1 (sym e)))))
    (cases_Bool (bytes_eq a b))

one_more : {A V : Type 0} (value : A → V) (b : Bool) (a : A) (r : Option A) (o : Option V) → (b ≡ true → r ≡ None)
    → or_else (option_map value r) (cond b (Some (value a)) o) ≡ or_else (option_map value (cond b (Some a) r)) o
one_more value true a r o n = ap (λ q. or_else (option_map value q) (Some (value a))) (n refl)
one_more value false a r o n = refl

over_is_found : {A V : Type 0} (datum : A → Data) (value : A → V) (es : StringPairs A) → KeysDiffer (pairs_for datum es) → (f : List ℕ → Option V) (t : List ℕ)
    → over value es f t ≡ or_else (option_map value (found t es)) (f t)
over_is_found datum value [] n f t = refl
over_is_found datum value (x ∷ es) n f t =
    let key = string_bytes x.0 in
    over_is_found datum value es n.1 (with_value key (value x.1) f) t
    ∙ one_more value (bytes_eq key t) x.1 (found t es) (f t) (λ y. subst (λ u. found u es ≡ None) ((bytes_eq-Decides key t).0 y) (none_found datum key es n.0))
    ∙ ap (λ b. or_else (option_map value (cond b (Some x.1) (found t es))) (f t)) (same_test key t)

pub mapping_back : {A V : Type 0} (datum : A → Data) (meaning : Data → Option V) (value : A → V) → ComesBack datum meaning value
    → (is_form : Bool) (m : BTreeMap (String Global) A) (e : Data) → is_plain is_form (d.mapping (pairs_for datum m.entries)) ≡ true → Same (d.mapping (pairs_for datum m.entries)) e
    → mapping_in meaning e ≡ Some (values_by_text value m)
mapping_back datum meaning value back is_form m _ h (Same.mapping {ps} {qs} k l p) =
    let plain = (both_hold (written_keys_differ (pairs_for datum m.entries)) (are_plain_pairs is_form (pairs_for datum m.entries)) h).1 in
    pairs_back datum meaning value back is_form m.entries qs nowhere plain l p
    ∙ ap Some (fun_ext (λ t. over_is_found datum value m.entries k nowhere t ∙ or_none (option_map value (found t m.entries))))
