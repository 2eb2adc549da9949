-- What follows a key, by the raw bytes of runs.
use Rattle.qs_tree.proofs.Common.{inl, inr, cases_Bool, ◌≡◌, ℕ, zero, suc, ◌-◌, Bool, true, false, ◌&&◌, List, [], ◌∷◌, ◌++◌, length, take, drop, refl, sym, ap, ap₂, ◌∙◌, subst, arith, Option, Some, None, Result, length-append, ◌<◌, ◌⊎◌, ⊎_elim, take-append_seam, drop_at, map-append, TokenKind, Token, tokens, is_escaped_bracket, raw_of, Amp, Equals, Open, Close, Other, ParsedSegment, parsed_segment_of, Pair, assigned, pushed, longer, is_equals, is_open, is_close, ends_last, Rest, cut, with_leaf, parsed_value, value_at, after_close, after_close_at, after_run, in_segment, in_last, parsed_brackets, Key, parsed_segment_of_key, path_of, kind_of_token, token_of, from_token, left, taken, IsLeft, IsPast, IsClosing, FollowsStop, ParsesPair, root_path, from_root, from_root_at}
use Rattle.qs_spec.specs.Leaf.{NoValue}
use Rattle.qs_tree.specs.declared.scan.cursor.TokenKind as kind
use Rattle.qs_tree.specs.declared.scan.cursor.Token as code
use Rattle.qs_tree.specs.declared.scan.cursor.Cursor as cursor
use Rattle.qs_tree.specs.declared.scan.pair.Pair as code_pair
use Rattle.qs_tree.specs.declared.scan.parser.ParseError as parse_error

-- what is left after some bytes
pub rest_left : (start front rest : List ℕ) → start ≡ front ++ rest → IsLeft start rest
rest_left start front rest e =
    let n : length start - length rest ≡ length front = omega (arith, ap length e, length-append front rest) in
    sym (ap (λ k. drop k start) n ∙ ap (drop (length front)) e ∙ drop_at front rest (length front) refl)

pub front_taken : (start front rest : List ℕ) → start ≡ front ++ rest → taken start rest ≡ front
front_taken start front rest e =
    let n : length start - length rest ≡ length front = omega (arith, ap length e, length-append front rest) in
    ap (λ k. take k start) n ∙ ap (take (length front)) e ∙ take-append_seam front rest

-- a token has bytes
abbrev pub HasBytes : List Token → Type 0
HasBytes [] = Unit {0}
HasBytes (t ∷ ts) = (b : ℕ) × (more : List ℕ) × (t.raw ≡ b ∷ more)

pub has_bytes : (is_form : Bool) (bytes : List ℕ) → HasBytes (tokens is_form bytes)
has_bytes is_form [] = tt
has_bytes is_form (b ∷ c ∷ e ∷ rest) = elim (cases_Bool (is_form && is_escaped_bracket b c e)) [ inl is ↦ rw is (b, c ∷ e ∷ [], refl) | inr other ↦ rw other (b, [], refl) ]
has_bytes is_form (b ∷ rest) = (b, [], refl)

-- a path and one key more
pub path_more : (keys new : List Key) (key : Key) (raw : List ℕ) → new ≡ keys ++ key ∷ [] → parsed_segment_of_key key ≡ parsed_segment_of raw → path_of new ≡ longer (path_of keys) raw
path_more keys new key raw e k = ap path_of e ∙ map-append parsed_segment_of_key keys (key ∷ []) ∙ ap (λ (s : ParsedSegment). path_of keys ++ s ∷ []) k

-- no value, at the end or before `&`
abbrev NoValueAt : Option code.Token → cursor.Cursor → Type 0
NoValueAt stop c = (x : List Token) × (parsed_value (from_token stop (left c)) ≡ Some (NoValue, x)) × IsPast x c

pub no_value_end : (stop : Option code.Token) (c : cursor.Cursor) → stop ≡ None → FollowsStop stop c → NoValueAt stop c
no_value_end None c e h = ([], refl, h.0)
no_value_end (Some t) c e h = cc

pub no_value_token : (stop : Option code.Token) (t : code.Token) (c : cursor.Cursor) → stop ≡ Some t → IsClosing stop → is_equals (kind_of_token t.kind) ≡ false → NoValueAt stop c
no_value_token stop t c e closing other = subst (λ s. NoValueAt s c) (sym e) (by (kind_of_token t.kind) refl (subst IsClosing e closing) other)
  where
    by : (k : TokenKind) → kind_of_token t.kind ≡ k → ends_last k ≡ true → is_equals k ≡ false → NoValueAt (Some t) c
    by Amp d closing other = (token_of t ∷ left c, ap (λ k. value_at k (token_of t) (left c)) d, (d, refl))
    by k d closing other = cc

-- the last key: the bracket, a token, and a run
pub last_found : (path : List ParsedSegment) (bracket raw : List ℕ) (t : Token) (ts stop : List Token) → is_close t.kind ≡ false → raw ≡ (bracket ++ t.raw) ++ raw_of (cut ends_last ts).0 → (cut ends_last ts).1 ≡ stop
    → parsed_brackets 0 path bracket (t ∷ ts) ≡ with_leaf (assigned (longer path raw)) (parsed_value stop)
last_found path bracket raw t ts stop other e s =
    ap (λ x. in_last x path bracket t ts) other ∙ ap₂ (λ r u. with_leaf (assigned (longer path r)) (parsed_value u)) (sym e) s

-- after a bracket: the end, a push, or a segment
pub push_found : (room : ℕ) (path : List ParsedSegment) (bracket : List ℕ) (t : Token) (ts : List Token) → is_close t.kind ≡ true → parsed_brackets room path bracket (t ∷ ts) ≡ with_leaf (pushed path) (parsed_value ts)
push_found zero path bracket t ts e = ap (λ x. in_last x path bracket t ts) e
push_found (suc room) path bracket t ts e = ap (λ x. in_segment x (parsed_brackets room) path t ts) e

segment_found : (room : ℕ) (path : List ParsedSegment) (bracket : List ℕ) (t : Token) (ts : List Token) → 0 < room → is_close t.kind ≡ false
    → parsed_brackets room path bracket (t ∷ ts) ≡ after_run (parsed_brackets (room - 1)) (longer path (raw_of (t ∷ (cut is_close ts).0))) (cut is_close ts).1
segment_found zero path bracket t ts h e = absurd (omega (arith, h))
segment_found (suc room) path bracket t ts h e =
    let less : room ≡ suc room - 1 = omega arith in
    ap (λ x. in_segment x (parsed_brackets room) path t ts) e ∙ ap (λ n. after_run (parsed_brackets n) (longer path (raw_of (t ∷ (cut is_close ts).0))) (cut is_close ts).1) less

-- a segment whose key was put to the path
pub segment_parsed : (room : ℕ) (keys new : List Key) (key : Key) (bracket raw : List ℕ) (t : Token) (ts stop : List Token) → 0 < room → is_close t.kind ≡ false
    → raw ≡ t.raw ++ raw_of (cut is_close ts).0 → (cut is_close ts).1 ≡ stop → new ≡ keys ++ key ∷ [] → parsed_segment_of_key key ≡ parsed_segment_of raw
    → parsed_brackets room (path_of keys) bracket (t ∷ ts) ≡ after_run (parsed_brackets (room - 1)) (path_of new) stop
segment_parsed room keys new key bracket raw t ts stop h e run token items k =
    segment_found room (path_of keys) bracket t ts h e
    ∙ ap₂ (after_run (parsed_brackets (room - 1))) (ap (longer (path_of keys)) (sym run) ∙ sym (path_more keys new key raw items k)) token

-- after a closed segment
module _ (room : ℕ) (path : List ParsedSegment) (t : code.Token) (rest : List Token) where
  pub next_closing : (k : TokenKind) → kind_of_token t.kind ≡ k → ends_last k ≡ true → after_close (parsed_brackets room) path (token_of t ∷ rest) ≡ with_leaf (assigned path) (parsed_value (token_of t ∷ rest))
  next_closing Amp d h = ap (λ k. after_close_at k (parsed_brackets room) path (token_of t) rest) d ∙ sym (ap (λ k. with_leaf (assigned path) (value_at k (token_of t) rest)) d)
  next_closing Equals d h = ap (λ k. after_close_at k (parsed_brackets room) path (token_of t) rest) d ∙ sym (ap (λ k. with_leaf (assigned path) (value_at k (token_of t) rest)) d)
  next_closing k d h = cc

  pub next_open : kind_of_token t.kind ≡ Open → after_close (parsed_brackets room) path (token_of t ∷ rest) ≡ parsed_brackets room path t.raw.now rest
  next_open d = ap (λ k. after_close_at k (parsed_brackets room) path (token_of t) rest) d

  pub next_close : kind_of_token t.kind ≡ Close → after_close (parsed_brackets room) path (token_of t ∷ rest) ≡ None
  next_close d = ap (λ k. after_close_at k (parsed_brackets room) path (token_of t) rest) d

  pub next_other : kind_of_token t.kind ≡ Other → after_close (parsed_brackets room) path (token_of t ∷ rest) ≡ None
  next_other d = ap (λ k. after_close_at k (parsed_brackets room) path (token_of t) rest) d

-- what is read where the same is found
pub pair_as : {A : Type 0} (found same : Rest Pair) (r : Result A parse_error.ParseError) (new : cursor.Cursor) (p : code_pair.Pair) → found ≡ same → ParsesPair same r new p → ParsesPair found r new p
pair_as found same r new p e h = subst (λ f. ParsesPair f r new p) (sym e) h

-- after a root key and an opening bracket
pub root_open : (depth : ℕ) (key : List ℕ) (stop : Option code.Token) (t : code.Token) (ts : List Token) (path : List ParsedSegment) → stop ≡ Some t → is_open (kind_of_token t.kind) ≡ true → path ≡ root_path key
    → from_root depth key (from_token stop ts) ≡ parsed_brackets depth path t.raw.now ts
root_open depth key stop t ts path is opens p =
    ap (λ o. from_root depth key (from_token o ts)) is ∙ by (kind_of_token t.kind) opens ∙ ap (λ q. parsed_brackets depth q t.raw.now ts) (sym p)
  where
    by : (k : TokenKind) → is_open k ≡ true → from_root_at k depth (root_path key) (token_of t) ts ≡ parsed_brackets depth (root_path key) t.raw.now ts
    by Open e = refl
    by k e = cc

pub closes : (k : kind.TokenKind) → (k ≡ kind.TheVariants.Ampersand) ⊎ (k ≡ kind.TheVariants.Equals) → ends_last (kind_of_token k) ≡ true
closes k h = ⊎_elim (λ e. ap (λ k. ends_last (kind_of_token k)) e) (λ e. ap (λ k. ends_last (kind_of_token k)) e) h
