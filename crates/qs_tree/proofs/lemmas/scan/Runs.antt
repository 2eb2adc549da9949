-- A run that is taken token by token.
use Rattle.qs_tree.proofs.Common.{◌≡◌, ℕ, ◌+◌, ◌-◌, ◌≤◌, ◌&&◌, ◌||◌, ◌==◌, Bool, true, false, cond, List, [], ◌∷◌, ◌++◌, length, take, drop, get_or, ◌<◌, refl, sym, ap, ◌∙◌, subst, arith, Option, Some, None, append_assoc, length-append, length-drop, drop-drop, IfSome, take-add, take-append_seam, drop_more, take_all, append-nil, drop_of_length-le, TokenKind, Token, tokens, byte_token, is_escaped_bracket, raw_of, cut, cut_at, kind_of_token, token_of, from_token, taken, IsLeft, IsInside, byte_kind}
use Rattle.qs_tree.specs.declared.scan.cursor.Token as code
use Rattle.qs_tree.proofs.lemmas.scan.Values.{stop_ends}

count : (start rest raw next : List ℕ) → IsLeft start rest → rest ≡ raw ++ next → length start - length next ≡ (length start - length rest) + length raw
count start rest raw next h e =
    omega (arith, ap length h, length-drop (length start - length rest) start, ap length e, length-append raw next)

pub taken_more : (start rest raw next : List ℕ) → IsLeft start rest → rest ≡ raw ++ next → taken start next ≡ taken start rest ++ raw
taken_more start rest raw next h e =
    ap (λ n. take n start) (count start rest raw next h e)
    ∙ take-add (length start - length rest) (length raw) start
    ∙ ap (λ l. taken start rest ++ l) (ap (take (length raw)) (sym h ∙ e) ∙ take-append_seam raw next)

-- a byte that is no `%` is a token by itself
pub lone_token : (is_form : Bool) (b : ℕ) (rest : List ℕ) → (b == 37) ≡ false → tokens is_form (b ∷ rest) ≡ byte_token b ∷ tokens is_form rest
lone_token is_form b (c ∷ e ∷ rest) h = by is_form (is_escaped_bracket b c e) (ap (λ x. (x && c == 53) && (e == 66 || e == 68)) h)
  where
    by : (f x : Bool) → x ≡ false → cond (f && x) (record { kind = cond (e == 66) TokenKind.Open TokenKind.Close; raw = b ∷ c ∷ e ∷ [] } ∷ tokens is_form rest) (byte_token b ∷ tokens is_form (c ∷ e ∷ rest)) ≡ byte_token b ∷ tokens is_form (c ∷ e ∷ rest)
    by false x i = refl
    by true false i = refl
    by true true i = cc
lone_token is_form b rest h = refl

module _ (ends : TokenKind → Bool) (is_form : Bool) (bytes : List ℕ) where
  -- the first bytes belong to the run, and what is left of it and ends it is as from there on
  pub record Within (at : ℕ) : Type 0 where
    pub some : at ≤ length bytes
    pub run : take at bytes ++ raw_of (cut ends (tokens is_form (drop at bytes))).0 ≡ raw_of (cut ends (tokens is_form bytes)).0
    pub stop : (cut ends (tokens is_form (drop at bytes))).1 ≡ (cut ends (tokens is_form bytes)).1

  goes_on : (at len : ℕ) (k : TokenKind) → Within at → at + len ≤ length bytes → tokens is_form (drop at bytes) ≡ record { kind = k; raw = take len (drop at bytes) } ∷ tokens is_form (drop len (drop at bytes)) → ends k ≡ false → Within (at + len)
  goes_on at len k h room is other =
      let t : Token = record { kind = k; raw = take len (drop at bytes) } in
      let next = tokens is_form (drop len (drop at bytes)) in
      let same : tokens is_form (drop (at + len) bytes) ≡ next = ap (tokens is_form) (sym (drop-drop len at bytes)) in
      let more = ap (cut ends) is ∙ ap (λ x. cut_at x t next (cut ends next)) other in
      let front : take at bytes ++ (t.raw ++ raw_of (cut ends next).0) ≡ raw_of (cut ends (tokens is_form bytes)).0 = sym (ap (λ c. take at bytes ++ raw_of c.0) more) ∙ h.run in
      record {
        some = room;
        run = ap (λ l. l ++ raw_of (cut ends (tokens is_form (drop (at + len) bytes))).0) (take-add at len bytes)
            ∙ append_assoc (take at bytes) t.raw (raw_of (cut ends (tokens is_form (drop (at + len) bytes))).0)
            ∙ ap (λ ts. take at bytes ++ (t.raw ++ raw_of (cut ends ts).0)) same
            ∙ front;
        stop = ap (λ ts. (cut ends ts).1) same ∙ sym (ap (λ c. c.1) more) ∙ h.stop;
      }

  -- a token at the front of the slice from there on
  pub token_on : (at len : ℕ) (k : TokenKind) → Within at → len ≤ length (take (length bytes - at) (drop at bytes))
      → tokens is_form (take (length bytes - at) (drop at bytes)) ≡ record { kind = k; raw = take len (take (length bytes - at) (drop at bytes)) } ∷ tokens is_form (drop len (take (length bytes - at) (drop at bytes)))
      → ends k ≡ false → Within (at + len)
  token_on at len k h room is other =
      let long = length-drop at bytes in
      let all : take (length bytes - at) (drop at bytes) ≡ drop at bytes = take_all (length bytes - at) (drop at bytes) (omega (arith, long)) in
      goes_on at len k h (omega (arith, h.some, room, ap length all, long)) (subst (λ l. tokens is_form l ≡ record { kind = k; raw = take len l } ∷ tokens is_form (drop len l)) all is) other

  pub inside_on : (at : ℕ) → Within at → at < length bytes → IsInside ends (get_or bytes at 0) → Within (at + 1)
  inside_on at h some inside =
      let b = get_or bytes at 0 in
      let front = drop_more bytes at 0 some in
      goes_on at 1 (byte_kind b) h (omega (arith, some))
      (ap (tokens is_form) front ∙ lone_token is_form b (drop (at + 1) bytes) inside.0
      ∙ ap (λ l. record { kind = byte_kind b; raw = l } ∷ tokens is_form (drop (at + 1) bytes)) (sym (ap (take 1) front))
      ∙ ap (λ l. record { kind = byte_kind b; raw = take 1 (drop at bytes) } ∷ tokens is_form l) (sym (ap (drop 1) front)))
      inside.1

  -- the run ends where the bytes do
  pub end_at : (at : ℕ) → Within at → length bytes ≤ at → (take at bytes ≡ raw_of (cut ends (tokens is_form bytes)).0) × (tokens is_form (drop at bytes) ≡ (cut ends (tokens is_form bytes)).1)
  end_at at h past =
      let none : drop at bytes ≡ [] = drop_of_length-le bytes past in (
        sym (append-nil (take at bytes)) ∙ ap (λ l. take at bytes ++ raw_of (cut ends (tokens is_form l)).0) (sym none) ∙ h.run,
        ap (tokens is_form) none ∙ ap (λ l. (cut ends (tokens is_form l)).1) (sym none) ∙ h.stop,
      )

  -- the run ends before a token at the front of the slice from there on
  pub stop_on : (at len : ℕ) (k : TokenKind) → Within at
      → tokens is_form (take (length bytes - at) (drop at bytes)) ≡ record { kind = k; raw = take len (take (length bytes - at) (drop at bytes)) } ∷ tokens is_form (drop len (take (length bytes - at) (drop at bytes)))
      → ends k ≡ true → (take at bytes ≡ raw_of (cut ends (tokens is_form bytes)).0) × (tokens is_form (drop at bytes) ≡ (cut ends (tokens is_form bytes)).1)
  stop_on at len k h is it =
      let t : Token = record { kind = k; raw = take len (drop at bytes) } in
      let next = tokens is_form (drop len (drop at bytes)) in
      let all : take (length bytes - at) (drop at bytes) ≡ drop at bytes = take_all (length bytes - at) (drop at bytes) (omega (arith, length-drop at bytes)) in
      let front : tokens is_form (drop at bytes) ≡ t ∷ next = subst (λ l. tokens is_form l ≡ record { kind = k; raw = take len l } ∷ tokens is_form (drop len l)) all is in
      let here : cut ends (tokens is_form (drop at bytes)) ≡ ([], t ∷ next) = ap (cut ends) front ∙ ap (λ x. cut_at x t next (cut ends next)) it in (
        sym (append-nil (take at bytes)) ∙ ap (λ p. take at bytes ++ raw_of p.0) (sym here) ∙ h.run,
        front ∙ ap (λ p. p.1) (sym here) ∙ h.stop,
      )

-- what follows a run ends it
pub stop_kind : (ends : TokenKind → Bool) (ts : List Token) (stop : Option code.Token) (us : List Token) → (cut ends ts).1 ≡ from_token stop us → IfSome stop (λ t. ends (kind_of_token t.kind) ≡ true)
stop_kind ends ts None us e = tt
stop_kind ends ts (Some t) us e = stop_ends ends ts (token_of t) us e
