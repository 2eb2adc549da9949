-- The entries of a map, place by place.
use Rattle.qs_data.proofs.Common.{◌≡◌, ℕ, zero, suc, ◌+◌, ◌≤◌, Bool, true, false, cond, ◌&&◌, length, slice_get, Option, Some, None, Result, Ok, Err, refl, sym, ap, subst, ◌∙◌, arith, add-one, inl, inr, cases_Bool, MatchResult, result_and, option_and_then, is_utf8, Segment, ParsedSegment, segment_text, Tree, Entries, no_entries, entry, keys_are_text, entry_list, is_text, entries_are_text, NumbersFit, KeyFits, PassesTest, entries_after, same_Some}
use Rattle.qs_data.proofs.lemmas.read.Errors.{and_left, and_right}

pub after_some : (i : ℕ) (es : Entries) (x : ParsedSegment × Tree) → slice_get (entry_list es) i ≡ Some x → entries_after i es ≡ entry x.0.segment x.0.escaped x.1 (entries_after (i + 1) es)
after_some zero (entry k m t es) x h =
    let first : ParsedSegment × Tree = (record { segment = k; escaped = m }, t) in
    let e : first ≡ x = same_Some first x h in
    ap (λ (y : ParsedSegment × Tree). entry y.0.segment y.0.escaped y.1 es) e
after_some (suc i) (entry k m t es) x h = rw add-one (after_some i es x h ∙ rw add-one)
after_some i es x h = absurd cc

pub after_none : (i : ℕ) (es : Entries) → slice_get (entry_list es) i ≡ None → entries_after i es ≡ no_entries
after_none zero (entry k m t es) h = absurd cc
after_none (suc i) (entry k m t es) h = after_none i es h
after_none zero no_entries h = refl
after_none (suc i) no_entries h = refl

pub after_all : (i : ℕ) (es : Entries) → length (entry_list es) ≤ i → entries_after i es ≡ no_entries
after_all zero (entry k m t es) h = absurd (omega arith)
after_all (suc i) (entry k m t es) h = after_all i es (omega arith)
after_all zero no_entries h = refl
after_all (suc i) no_entries h = refl

-- a key that isn't a text stands among entries that aren't
pub keys_bad : (es : Entries) → keys_are_text es ≡ false → entries_are_text es ≡ false
keys_bad no_entries n = absurd cc
keys_bad (entry k m t es) n = elim (cases_Bool (is_utf8 (segment_text k))) [
  | inl is ↦ and_right (is_utf8 (segment_text k) && is_text t) (entries_are_text es) (keys_bad es (sym (ap (λ b. b && keys_are_text es) is) ∙ n))
  | inr not ↦ and_left (is_utf8 (segment_text k) && is_text t) (entries_are_text es) (and_left (is_utf8 (segment_text k)) (is_text t) not)
]

-- nothing is read where a test fails
pub untested : {A : Type 0} (test : Bool) (r : Option A) → test ≡ false → option_and_then (λ x. cond test (Some x) None) r ≡ None
untested test None h = refl
untested test (Some x) h = ap (λ b. cond b (Some x) None) h

-- the keys before some that are left were tested
pub record Tested {E : Type 0} (es rest : Entries) (tested : Result (Unit {0}) E) : Type 0 where
  pub text : MatchResult tested (λ _. keys_are_text es ≡ keys_are_text rest) (λ _. keys_are_text es ≡ false)
  pub fit : NumbersFit rest → NumbersFit es

pub tested_all : {E : Type 0} (es : Entries) → Tested {E = E} es es (Ok tt)
tested_all es = record { text = refl; fit = λ h. h }

pub tested_done : {E : Type 0} (es rest : Entries) (x : Result (Unit {0}) E) → rest ≡ no_entries → Tested es rest x → PassesTest x (keys_are_text es)
tested_done es rest (Ok y) h t = t.text ∙ ap keys_are_text h
tested_done es rest (Err e) h t = t.text

pub fit_done : {E : Type 0} (es rest : Entries) (x : Result (Unit {0}) E) → rest ≡ no_entries → Tested es rest x → NumbersFit es
fit_done es rest x h t = t.fit (subst NumbersFit (sym h) tt)

-- one more
pub tested_more : {E : Type 0} (es more : Entries) (k : Segment) (m : Bool) (t : Tree) (x y : Result (Unit {0}) E) → Tested es (entry k m t more) x
    → PassesTest y (is_utf8 (segment_text k)) → KeyFits k → Tested es more (result_and x y)
tested_more {E = E} es more k m t x y h g f = record {
  text = text x y h.text g;
  fit = λ n. h.fit (f, n);
} where
  text : (x y : Result (Unit {0}) E) → MatchResult x (λ _. keys_are_text es ≡ keys_are_text (entry k m t more)) (λ _. keys_are_text es ≡ false)
      → PassesTest y (is_utf8 (segment_text k)) → MatchResult (result_and x y) (λ _. keys_are_text es ≡ keys_are_text more) (λ _. keys_are_text es ≡ false)
  text (Ok u) (Ok v) a b = a ∙ rw b refl
  text (Ok u) (Err e) a b = a ∙ and_left (is_utf8 (segment_text k)) (keys_are_text more) b
  text (Err e) y a b = a

-- whether the keys before some that are left are texts, and what is known of their numbers
pub record Passed (es rest : Entries) (passed : Bool) : Type 0 where
  pub text : keys_are_text es ≡ (passed && keys_are_text rest)
  pub fit : NumbersFit rest → NumbersFit es

pub passed_all : (es : Entries) → Passed es es true
passed_all es = record { text = refl; fit = λ h. h }

pub passed_done : (es rest : Entries) (p : Bool) → rest ≡ no_entries → Passed es rest p → p ≡ keys_are_text es
passed_done es rest true h t = sym (t.text ∙ ap keys_are_text h)
passed_done es rest false h t = sym t.text

pub passed_fit : (es rest : Entries) (p : Bool) → rest ≡ no_entries → Passed es rest p → NumbersFit es
passed_fit es rest p h t = t.fit (subst NumbersFit (sym h) tt)

-- one more
pub passed_more : (es more : Entries) (k : Segment) (m : Bool) (t : Tree) (p q : Bool) → Passed es (entry k m t more) p → q ≡ is_utf8 (segment_text k) → KeyFits k → Passed es more (p && q)
passed_more es more k m t p q h is f = record { text = text p (h.text ∙ ap (λ b. p && (b && keys_are_text more)) (sym is)); fit = λ n. h.fit (f, n) } where
  text : (p : Bool) → keys_are_text es ≡ (p && (q && keys_are_text more)) → keys_are_text es ≡ ((p && q) && keys_are_text more)
  text true e = e
  text false e = e
