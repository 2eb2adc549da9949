-- The first of the entries that are left.
use Rattle.qs_data.proofs.Common.{◌≡◌, ℕ, zero, suc, ◌+◌, Bool, true, false, cond, List, [], slice_get, Option, Some, None, refl, sym, ap, ◌∙◌, is_utf8, ParsedSegment, segment_text, Tree, Entries, no_entries, entry, keys_are_text, under_empty, entry_list, first_entry, utf8_text}
use Rattle.std.specs.Prelude.{if◌then◌else◌}
use Rattle.qs_data.specs.read.Entries.{entries_after}
use Rattle.qs_data.proofs.lemmas.read.Entries.{after_none, after_some}
use Rattle.qs_data.proofs.lemmas.read.Errors.{and_left, and_right}
use Rattle.qs_data.proofs.lemmas.read.Numbers.{empty_text}

pub utf8_is : (bytes : List ℕ) → is_utf8 bytes ≡ true → utf8_text bytes ≡ Some bytes
utf8_is bytes h = rw h

given : (b : Bool) (k key : List ℕ) (t : Tree) → (if b then Some k else None) ≡ Some key → cond {A = Option (Option (List ℕ × Tree))} b (Some (Some (k, t))) None ≡ Some (Some (key, t))
given true k key t h = let e : k ≡ key = cc in ap (λ (y : List ℕ). Some (Some (y, t))) e
given false k key t h = absurd cc

not_given : (b : Bool) (k : List ℕ) (t : Tree) → (if b then Some k else None) ≡ None → cond {A = Option (Option (List ℕ × Tree))} b (Some (Some (k, t))) None ≡ None
not_given true k t h = absurd cc
not_given false k t h = refl

after_keys : (i : ℕ) (es : Entries) → keys_are_text (entries_after i es) ≡ false → keys_are_text es ≡ false
after_keys zero es h = h
after_keys (suc i) no_entries h = h
after_keys (suc i) (entry k m t es) h = and_right (is_utf8 (segment_text k)) (keys_are_text es) (after_keys i es h)

pub first_none : (i : ℕ) (es : Entries) → slice_get (entry_list es) i ≡ None → first_entry (entries_after i es) ≡ Some None
first_none i es h = ap first_entry (after_none i es h)

module _ (i : ℕ) (es : Entries) (x : ParsedSegment × Tree) (here : slice_get (entry_list es) i ≡ Some x) where
  pub first_given : (key : List ℕ) → utf8_text (segment_text x.0.segment) ≡ Some key → first_entry (entries_after i es) ≡ Some (Some (key, x.1))
  first_given key h = ap first_entry (after_some i es x here) ∙ given (is_utf8 (segment_text x.0.segment)) (segment_text x.0.segment) key x.1 h

  pub first_rejected : utf8_text (segment_text x.0.segment) ≡ None → first_entry (entries_after i es) ≡ None
  first_rejected h = ap first_entry (after_some i es x here) ∙ not_given (is_utf8 (segment_text x.0.segment)) (segment_text x.0.segment) x.1 h

  pub key_bad : is_utf8 (segment_text x.0.segment) ≡ false → keys_are_text es ≡ false
  key_bad n = after_keys i es (ap keys_are_text (after_some i es x here) ∙ and_left (is_utf8 (segment_text x.0.segment)) (keys_are_text (entries_after (i + 1) es)) n)

-- a value under the empty key

pub lone_first : (i : ℕ) (t : Tree) (key : List ℕ) → i ≡ 0 → key ≡ [] → first_entry (entries_after i (under_empty t)) ≡ Some (Some (key, t))
lone_first i t key h e =
    ap (λ n. first_entry (entries_after n (under_empty t))) h ∙ ap (λ b. cond b (Some (Some ([], t))) None) empty_text ∙ ap (λ k. Some (Some (k, t))) (sym e)

nothing_after : (i : ℕ) → first_entry (entries_after i no_entries) ≡ Some None
nothing_after zero = refl
nothing_after (suc i) = refl

pub lone_end : (i : ℕ) (t : Tree) → (i ≡ 0 → ⊥) → first_entry (entries_after i (under_empty t)) ≡ Some None
lone_end zero t h = absurd (h refl)
lone_end (suc i) t h = nothing_after i
