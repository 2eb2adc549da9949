-- A value that is found by its first `&`, and the tokens that it is.
use Rattle.qs_tree.proofs.Common.{inl, inr, cases_Bool, ◌≡◌, ℕ, suc, ◌+◌, ◌==◌, Bool, true, false, cond, not, ◌&&◌, ◌||◌, List, [], ◌∷◌, ◌++◌, length, take, drop, eqb-true, refl, sym, ap, ap₂, ◌∙◌, le_refl, subst, arith, Option, Some, None, IfNone, position_or_len, take-length, drop_all, has_escape, and_both, TokenKind, Token, tokens, byte_token, byte_kind, is_escaped_bracket, raw_of, Amp, Equals, Open, Close, Other, is_amp, cut, cut_at, is_ampersand, kind_of_token, token_of, raw_from_token, from_token, left, IsPast, is_unescaped}
use Rattle.qs_tree.specs.declared.scan.cursor.Token as code
use Rattle.qs_tree.specs.declared.scan.cursor.Cursor as cursor

-- where the value ends
abbrev pub value_end : List ℕ → ℕ
value_end bytes = position_or_len is_ampersand bytes

-- the run of some tokens is the bytes up to that index, and after it are the tokens of the others
pub record IsValueCut (is_form : Bool) (bytes : List ℕ) (ts : List Token) : Type 0 where
  pub run : raw_of (cut is_amp ts).0 ≡ take (value_end bytes) bytes
  pub rest : (cut is_amp ts).1 ≡ tokens is_form (drop (value_end bytes) bytes)

-- only `&` is a token of that kind
amp_of_byte : (b : ℕ) → is_amp (byte_kind b) ≡ (b == 38)
amp_of_byte b = by (b == 38) (b == 61) (b == 91) (b == 93)
  where
    by : (x y z w : Bool) → is_amp (cond x Amp (cond y Equals (cond z Open (cond w Close Other)))) ≡ x
    by false false false false = refl
    by x y z w = refl

-- a byte that is a token by itself, before bytes whose value is cut so
byte_before : (is_form : Bool) (b : ℕ) (bytes : List ℕ) → ((b == 38) ≡ true → tokens is_form (b ∷ bytes) ≡ byte_token b ∷ tokens is_form bytes) → IsValueCut is_form bytes (tokens is_form bytes) → IsValueCut is_form (b ∷ bytes) (byte_token b ∷ tokens is_form bytes)
byte_before is_form b bytes alone h = by (b == 38) refl
  where
    by : (x : Bool) → (b == 38) ≡ x → IsValueCut is_form (b ∷ bytes) (byte_token b ∷ tokens is_form bytes)
    by true e =
        let at : value_end (b ∷ bytes) ≡ 0 = ap (λ x. cond (not x) (1 + value_end bytes) 0) e in
        let stops = amp_of_byte b ∙ e in
        record {
          run = ap (λ x. raw_of (cut_at x (byte_token b) (tokens is_form bytes) (cut is_amp (tokens is_form bytes))).0) stops ∙ sym (ap (λ n. take n (b ∷ bytes)) at);
          rest = ap (λ x. (cut_at x (byte_token b) (tokens is_form bytes) (cut is_amp (tokens is_form bytes))).1) stops ∙ sym (alone e) ∙ sym (ap (λ n. tokens is_form (drop n (b ∷ bytes))) at);
        }
    by false e =
        let at : value_end (b ∷ bytes) ≡ suc (value_end bytes) = ap (λ x. cond (not x) (1 + value_end bytes) 0) e ∙ omega arith in
        let goes = amp_of_byte b ∙ e in
        record {
          run = ap (λ x. raw_of (cut_at x (byte_token b) (tokens is_form bytes) (cut is_amp (tokens is_form bytes))).0) goes ∙ ap (λ l. b ∷ l) h.run ∙ sym (ap (λ n. take n (b ∷ bytes)) at);
          rest = ap (λ x. (cut_at x (byte_token b) (tokens is_form bytes) (cut is_amp (tokens is_form bytes))).1) goes ∙ h.rest ∙ sym (ap (λ n. tokens is_form (drop n (b ∷ bytes))) at);
        }

other_byte : (b : ℕ) (bytes : List ℕ) → (b == 38) ≡ false → value_end (b ∷ bytes) ≡ suc (value_end bytes)
other_byte b bytes e = ap (λ x. cond (not x) (1 + value_end bytes) 0) e ∙ omega arith

-- an escaped bracket holds no `&`
is_other : (b k : ℕ) → (b == k) ≡ true → (k == 38) ≡ false → (b == 38) ≡ false
is_other b k e h = ap (λ x. x == 38) (eqb-true b k e) ∙ h

is_either : (e : ℕ) → (e == 66 || e == 68) ≡ true → (e == 38) ≡ false
is_either e h = elim (cases_Bool (e == 66)) [ inl d ↦ is_other e 66 d refl | inr d ↦ is_other e 68 (sym (ap (λ x. x || e == 68) d) ∙ h) refl ]

bracket_kind : (x : Bool) → is_amp (cond x Open Close) ≡ false
bracket_kind true = refl
bracket_kind false = refl

bracket_before : (is_form : Bool) (b c e : ℕ) (rest : List ℕ) (x : Bool) → is_escaped_bracket b c e ≡ true → IsValueCut is_form rest (tokens is_form rest)
    → IsValueCut is_form (b ∷ c ∷ e ∷ rest) (record { kind = cond x Open Close; raw = b ∷ c ∷ e ∷ [] } ∷ tokens is_form rest)
bracket_before is_form b c e rest x i h =
    let last = and_both (b == 37 && c == 53) (e == 66 || e == 68) i in
    let two = and_both (b == 37) (c == 53) last.0 in
    let end : value_end (b ∷ c ∷ e ∷ rest) ≡ suc (suc (suc (value_end rest))) =
    other_byte b (c ∷ e ∷ rest) (is_other b 37 two.0 refl)
    ∙ ap suc (other_byte c (e ∷ rest) (is_other c 53 two.1 refl) ∙ ap suc (other_byte e rest (is_either e last.1))) in
    let token : Token = record { kind = cond x Open Close; raw = b ∷ c ∷ e ∷ [] } in
    let goes = bracket_kind x in
    record {
      run = ap (λ y. raw_of (cut_at y token (tokens is_form rest) (cut is_amp (tokens is_form rest))).0) goes ∙ ap (λ l. b ∷ c ∷ e ∷ l) h.run ∙ sym (ap (λ n. take n (b ∷ c ∷ e ∷ rest)) end);
      rest = ap (λ y. (cut_at y token (tokens is_form rest) (cut is_amp (tokens is_form rest))).1) goes ∙ h.rest ∙ sym (ap (λ n. tokens is_form (drop n (b ∷ c ∷ e ∷ rest))) end);
    }

pub value_cut : (is_form : Bool) (bytes : List ℕ) → IsValueCut is_form bytes (tokens is_form bytes)
value_cut is_form [] = record { run = refl; rest = refl }
value_cut is_form (b ∷ c ∷ e ∷ rest) = by is_form (is_escaped_bracket b c e) refl (value_cut is_form rest) (value_cut is_form (c ∷ e ∷ rest))
  where
    by : (f x : Bool) → is_escaped_bracket b c e ≡ x → IsValueCut f rest (tokens f rest) → IsValueCut f (c ∷ e ∷ rest) (tokens f (c ∷ e ∷ rest))
        → IsValueCut f (b ∷ c ∷ e ∷ rest) (tokens f (b ∷ c ∷ e ∷ rest))
    by false x i h g = byte_before false b (c ∷ e ∷ rest) (λ _. refl) g
    by true true i h g = subst (IsValueCut true (b ∷ c ∷ e ∷ rest)) (sym (ap (λ y. cond y (record { kind = cond (e == 66) Open Close; raw = b ∷ c ∷ e ∷ [] } ∷ tokens true rest) (byte_token b ∷ tokens true (c ∷ e ∷ rest))) i)) (bracket_before true b c e rest (e == 66) i h)
    by true false i h g =
        let ignoring_escapes : tokens true (b ∷ c ∷ e ∷ rest) ≡ byte_token b ∷ tokens true (c ∷ e ∷ rest) = ap (λ y. cond y (record { kind = cond (e == 66) Open Close; raw = b ∷ c ∷ e ∷ [] } ∷ tokens true rest) (byte_token b ∷ tokens true (c ∷ e ∷ rest))) i in
        subst (IsValueCut true (b ∷ c ∷ e ∷ rest)) (sym ignoring_escapes) (byte_before true b (c ∷ e ∷ rest) (λ _. ignoring_escapes) g)
value_cut is_form (b ∷ bytes) = byte_before is_form b bytes (λ _. refl) (value_cut is_form bytes)

-- what follows a run ends it
pub stop_ends : (ends : TokenKind → Bool) (ts : List Token) (t : Token) (rest : List Token) → (cut ends ts).1 ≡ t ∷ rest → ends t.kind ≡ true
stop_ends ends [] t rest e = cc
stop_ends ends (u ∷ ts) t rest e = by (ends u.kind) refl e (stop_ends ends ts t rest)
  where
    by : (x : Bool) → ends u.kind ≡ x → (cut_at x u ts (cut ends ts)).1 ≡ t ∷ rest → ((cut ends ts).1 ≡ t ∷ rest → ends t.kind ≡ true) → ends t.kind ≡ true
    by true d e h = let same : u ≡ t = cc in ap (λ (v : Token). ends v.kind) (sym same) ∙ d
    by false d e h = h e

pub is_amp_of : (k : TokenKind) → is_amp k ≡ true → k ≡ Amp
is_amp_of Amp e = refl
is_amp_of k e = cc

-- past a value is past its `&`, or past the end
pub value_past : (ts : List Token) (found : Option code.Token) (new : cursor.Cursor) → (cut is_amp ts).1 ≡ from_token found (left new) → IfNone found (new.rest.now ≡ []) → IsPast (cut is_amp ts).1 new
value_past ts None new e end = subst (λ l. IsPast l new) (sym e) end
value_past ts (Some t) new e end = subst (λ l. IsPast l new) (sym e) (is_amp_of (kind_of_token t.kind) (stop_ends is_amp ts (token_of t) (left new) e), refl)

-- bytes without `&`, `+` and `%` are one value, which is decoded to itself
plain_parts : (b : ℕ) (bytes : List ℕ) → is_unescaped (b ∷ bytes) ≡ true → ((b == 38) ≡ false) × ((b == 43 || b == 37) ≡ false) × (is_unescaped bytes ≡ true)
plain_parts b bytes e =
    let parts = and_both (not (b == 38 || b == 43 || b == 37)) (is_unescaped bytes) e in
    by (b == 38) (b == 43) (b == 37) parts.0 parts.1
  where
    by : (x y z : Bool) → not (x || y || z) ≡ true → is_unescaped bytes ≡ true → (x ≡ false) × ((y || z) ≡ false) × (is_unescaped bytes ≡ true)
    by false false false e h = (refl, refl, h)
    by x y z e h = cc

plain_end : (bytes : List ℕ) → is_unescaped bytes ≡ true → value_end bytes ≡ length bytes
plain_end [] e = refl
plain_end (b ∷ bytes) e = let parts = plain_parts b bytes e in other_byte b bytes parts.0 ∙ ap suc (plain_end bytes parts.2)

plain_escaped : (bytes : List ℕ) → is_unescaped bytes ≡ true → has_escape bytes ≡ false
plain_escaped [] e = refl
plain_escaped (b ∷ bytes) e = let parts = plain_parts b bytes e in ap₂ ◌||◌ parts.1 (plain_escaped bytes parts.2)

no_bytes : (front back : List ℕ) → [] ≡ front ++ back → back ≡ []
no_bytes [] back e = sym e
no_bytes (b ∷ front) back e = cc

pub plain_value : (bytes value rest : List ℕ) (found : Option code.Token) (new : List ℕ) → is_unescaped bytes ≡ true → value ≡ take (value_end bytes) bytes → rest ≡ drop (value_end bytes) bytes
    → rest ≡ raw_from_token found new → IfNone found (new ≡ []) → (has_escape value ≡ false) × (new ≡ [])
plain_value bytes value rest found new e front back past_it end =
    let whole = plain_end bytes e in (
      ap has_escape (front ∙ ap (λ n. take n bytes) whole ∙ take-length bytes) ∙ plain_escaped bytes e,
      by found (sym (back ∙ ap (λ n. drop n bytes) whole ∙ drop_all (length bytes) bytes (le_refl (length bytes))) ∙ past_it) end,
    )
  where
    by : (found : Option code.Token) → [] ≡ raw_from_token found new → IfNone found (new ≡ []) → new ≡ []
    by None e end = end
    by (Some t) e end = no_bytes t.raw.now new e
