-- One item of what is left, and the pairs after it.
use Rattle.qs_tree.proofs.Common.{inl, inr, cases_Bool, ◌≡◌, ℕ, zero, suc, Bool, true, false, ◌&&◌, ◌==◌, List, [], ◌∷◌, ◌++◌, length, refl, sym, ap, ◌∙◌, subst, arith, Option, Some, None, Result, Ok, Err, option_map, eqb-true, length-append, IsErrAnd, TokenKind, Token, tokens, raw_of, Amp, Equals, Open, parsed_segment_of, Pair, assigned, root, is_amp, ends_root, Rest, cut, cut_at, with_leaf, value_at, parsed_brackets, after_root, after_root_at, named, parsed_pairs, and_pairs, and_both, pair_of, kind_of_token, token_of, from_token, left, IsPast, is_nothing, IsParseError, ParsesPair, ParsesItem, root_path, from_root, from_root_at}
use Rattle.qs_spec.specs.Leaf.{NoValue}
use Rattle.qs_spec.proofs.ReadOn.{after_ampersand, after_pair}
use Rattle.qs_tree.specs.declared.scan.cursor.Token as code
use Rattle.qs_tree.specs.declared.scan.cursor.Cursor as cursor
use Rattle.qs_tree.specs.declared.scan.pair.Pair as code_pair
use Rattle.qs_tree.specs.declared.scan.parser.Item as item
use Rattle.qs_tree.specs.declared.scan.parser.ParseError as parse_error
use Rattle.qs_tree.proofs.lemmas.scan.AfterKeys.{HasBytes}
use Rattle.qs_tree.proofs.lemmas.scan.Values.{is_amp_of}

-- a token's bytes are some
not_empty : (t : Token) (more : List ℕ) → HasBytes (t ∷ []) → (length (t.raw ++ more) == 0) ≡ true → ⊥
not_empty t more h e = let w = eqb-true (length (t.raw ++ more)) 0 e in absurd (omega (arith, ap length h.2, length-append t.raw more))

amp_ends : (depth : ℕ) (k : TokenKind) → is_amp k ≡ true → ends_root depth k ≡ true
amp_ends zero Amp e = refl
amp_ends (suc depth) Amp e = refl
amp_ends depth k e = cc

module _ (depth : ℕ) where
  -- where the root key is empty and `&` or the end follows, nothing else was there
  nothing_tokens : (ts : List Token) (stop : Option code.Token) (rest : List Token) → HasBytes ts → (cut (ends_root depth) ts).1 ≡ from_token stop rest
      → is_nothing (raw_of (cut (ends_root depth) ts).0) stop ≡ true → ts ≡ from_token stop rest
  nothing_tokens [] stop rest h s e = s
  nothing_tokens (t ∷ ts) stop rest h s e = by (ends_root depth t.kind) s e
    where
      empty : (raw : List ℕ) (stop : Option code.Token) → is_nothing raw stop ≡ true → (length raw == 0) ≡ true
      empty raw None e = e
      empty raw (Some u) e = (and_both (length raw == 0) (is_amp (kind_of_token u.kind)) e).0

      by : (x : Bool) → (cut_at x t ts (cut (ends_root depth) ts)).1 ≡ from_token stop rest → is_nothing (raw_of (cut_at x t ts (cut (ends_root depth) ts)).0) stop ≡ true → t ∷ ts ≡ from_token stop rest
      by true s e = s
      by false s e = absurd (not_empty t (raw_of (cut (ends_root depth) ts).0) h (empty _ stop e))

  pub end_pairs : (ts : List Token) (stop : Option code.Token) (rest : List Token) → HasBytes ts → (cut (ends_root depth) ts).1 ≡ from_token stop rest
      → is_nothing (raw_of (cut (ends_root depth) ts).0) stop ≡ true → stop ≡ None → parsed_pairs depth ts ≡ Some []
  end_pairs ts stop rest h s e d = ap (parsed_pairs depth) (nothing_tokens ts stop rest h s e ∙ ap (λ o. from_token o rest) d)

  pub ampersand_pairs : (ts : List Token) (stop : Option code.Token) (t : code.Token) (rest : List Token) → HasBytes ts → (cut (ends_root depth) ts).1 ≡ from_token stop rest
      → is_nothing (raw_of (cut (ends_root depth) ts).0) stop ≡ true → stop ≡ Some t → parsed_pairs depth ts ≡ parsed_pairs depth rest
  ampersand_pairs ts stop t rest h s e d =
      let amp = and_both _ (is_amp (kind_of_token t.kind)) (sym (ap (is_nothing (raw_of (cut (ends_root depth) ts).0)) d) ∙ e) in
      ap (parsed_pairs depth) (nothing_tokens ts stop rest h s e ∙ ap (λ o. from_token o rest) d) ∙ after_ampersand depth (token_of t) rest (is_amp_of (kind_of_token t.kind) amp.1)

  -- a root key as raw bytes
  root_is : (key : List Token) → HasBytes key → root key ≡ root_path (raw_of key)
  root_is [] h = refl
  root_is (t ∷ key) h = subst (λ raw. parsed_segment_of (raw ++ raw_of key) ∷ [] ≡ root_path (raw ++ raw_of key)) (sym h.2) refl

  cut_bytes : (ts : List Token) → HasBytes ts → HasBytes (cut (ends_root depth) ts).0
  cut_bytes [] h = tt
  cut_bytes (t ∷ ts) h = elim (cases_Bool (ends_root depth t.kind)) [ inl ends ↦ rw ends tt | inr goes ↦ rw goes h ]

  -- after a root key that isn't nothing
  after_key : (key : List Token) (stop : Option code.Token) (rest : List Token) → HasBytes key → is_nothing (raw_of key) stop ≡ false → after_root depth key (from_token stop rest) ≡ from_root depth (raw_of key) (from_token stop rest)
  after_key [] None rest h e = cc
  after_key (t ∷ key) None rest h e = ap (λ p. Some (assigned p NoValue, [])) (root_is (t ∷ key) h)
  after_key key (Some u) rest h e = by (kind_of_token u.kind) refl key h e
    where
      named_is : (key : List Token) → HasBytes key → (length (raw_of key) == 0 && true) ≡ false → named key (token_of u ∷ rest) ≡ Some (assigned (root_path (raw_of key)) NoValue, token_of u ∷ rest)
      named_is [] h e = cc
      named_is (t ∷ key) h e = ap (λ p. Some (assigned p NoValue, token_of u ∷ rest)) (root_is (t ∷ key) h)

      by : (k : TokenKind) → kind_of_token u.kind ≡ k → (key : List Token) → HasBytes key → (length (raw_of key) == 0 && is_amp (kind_of_token u.kind)) ≡ false
          → after_root_at k depth key (token_of u) rest ≡ from_root_at k depth (root_path (raw_of key)) (token_of u) rest
      by Amp d key h e = named_is key h (sym (ap (λ k. length (raw_of key) == 0 && is_amp k) d) ∙ e) ∙ sym (ap (λ k. with_leaf (assigned (root_path (raw_of key))) (value_at k (token_of u) rest)) d)
      by Equals d key h e = ap (λ p. with_leaf (assigned p) (value_at Equals (token_of u) rest)) (root_is key h) ∙ sym (ap (λ k. with_leaf (assigned (root_path (raw_of key))) (value_at k (token_of u) rest)) d)
      by Open d key h e = ap (λ p. parsed_brackets depth p u.raw.now rest) (root_is key h)
      by k d key h e = refl

  pub pair_pairs : (ts : List Token) (stop : Option code.Token) (rest : List Token) → HasBytes ts → (cut (ends_root depth) ts).1 ≡ from_token stop rest
      → is_nothing (raw_of (cut (ends_root depth) ts).0) stop ≡ false → parsed_pairs depth ts ≡ and_pairs depth (from_root depth (raw_of (cut (ends_root depth) ts).0) (from_token stop rest))
  pair_pairs [] None rest h s e = cc
  pair_pairs [] (Some u) rest h s e = cc
  pair_pairs (t ∷ ts) stop rest h s e =
      after_pair depth t ts (by (is_amp t.kind) refl)
      ∙ ap (λ u. and_pairs depth (after_root depth (cut (ends_root depth) (t ∷ ts)).0 u)) s
      ∙ ap (and_pairs depth) (after_key (cut (ends_root depth) (t ∷ ts)).0 stop rest (cut_bytes (t ∷ ts) h) e)
    where
      by : (x : Bool) → is_amp t.kind ≡ x → is_amp t.kind ≡ false
      by false d = d
      by true d = absurd (amp stop (sym (ap (λ x. (cut_at x t ts (cut (ends_root depth) ts)).1) (amp_ends depth t.kind d)) ∙ s) (sym (ap (λ x. is_nothing (raw_of (cut_at x t ts (cut (ends_root depth) ts)).0) stop) (amp_ends depth t.kind d)) ∙ e))
        where
          amp : (stop : Option code.Token) → t ∷ ts ≡ from_token stop rest → is_nothing [] stop ≡ false → ⊥
          amp None s e = cc
          amp (Some u) s e = let same : t ≡ token_of u = cc in let w : is_amp (kind_of_token u.kind) ≡ true = ap (λ (v : Token). is_amp v.kind) (sym same) ∙ d in cc

  -- after a pair there are the pairs of what is left
  past_pairs : (rest : List Token) (new : cursor.Cursor) → IsPast rest new → parsed_pairs depth rest ≡ parsed_pairs depth (left new)
  past_pairs [] new h = sym (ap (λ l. parsed_pairs depth (tokens new.is_form l)) h)
  past_pairs (t ∷ ts) new h = after_ampersand depth t ts h.0 ∙ ap (parsed_pairs depth) h.1

  pub pair_item : (ts : List Token) (found : Rest Pair) (a : Unit {0}) (new : cursor.Cursor) (p : code_pair.Pair) → parsed_pairs depth ts ≡ and_pairs depth found → ParsesPair found (Ok a) new p → ParsesItem depth ts (Ok item.TheVariants.Pair) new p
  pair_item ts found a new p e h = e ∙ ap (and_pairs depth) h.1 ∙ ap (option_map (λ ps. pair_of p ∷ ps)) (past_pairs h.0 new h.2)

  error_same : (ts : List Token) (found : Rest Pair) (f : parse_error.ParseError) → parsed_pairs depth ts ≡ and_pairs depth found → IsParseError found f → IsParseError (parsed_pairs depth ts) f
  error_same ts found (parse_error.TheVariants.Syntax error) e h = e ∙ ap (and_pairs depth) h
  error_same ts found parse_error.TheVariants.OutOfMemory e h = tt

  pub error_item : (ts : List Token) (found : Rest Pair) (o : Result item.Item parse_error.ParseError) (f : parse_error.ParseError) (Q : parse_error.ParseError → Type 0) (new : cursor.Cursor) (p : code_pair.Pair) → IsErrAnd o Q → ((g : parse_error.ParseError) → Q g → g ≡ f)
      → parsed_pairs depth ts ≡ and_pairs depth found → IsParseError found f → ParsesItem depth ts o new p
  error_item ts found (Ok i) f Q new p h same e parse_error = absurd h
  error_item ts found (Err g) f Q new p h same e parse_error = error_same ts found g e (subst (IsParseError found) (sym (same g h)) parse_error)
