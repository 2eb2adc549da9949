-- Items of inputs for which nothing is allocated.
use Rattle.qs_tree.proofs.Common.{◌≡◌, ℕ, zero, suc, Bool, true, false, cond, ◌&&◌, ◌||◌, ◌==◌, List, [], ◌∷◌, ◌++◌, length, refl, sym, ap, ap₂, ◌∙◌, subst, Option, Some, None, Result, eqb-true, ◌<◌, arith, inl, inr, list_all-append, TokenKind, Token, tokens, byte_token, byte_kind, raw_of, Amp, Equals, Open, Close, is_amp, is_equals, is_open, ends_root, cut, cut_at, and_both, IsFresh, IsWithoutMaps, is_ampersand, kind_of_token, token_of, raw_from_token, from_token, is_nothing, is_ampersands, is_unescaped, is_unescaped_value, AllocatesNothing, IsEqualsStop, ParsesUnallocated, StaysUnallocated, IsNoMap, built_tree}
use Rattle.qs_tree.proofs.lemmas.Views.{built_tree-fresh}
use Rattle.qs_tree.specs.declared.build.descent.OpenTree.{OpenTree}
use Rattle.qs_tree.specs.declared.scan.cursor.Token as code
use Rattle.qs_tree.specs.declared.scan.cursor.Cursor as cursor
use Rattle.qs_tree.specs.declared.scan.pair.Pair as code_pair
use Rattle.qs_tree.specs.declared.scan.parser.Item as item
use Rattle.qs_tree.specs.declared.scan.parser.ParseError as parse_error

-- a byte other than `%` is a token by itself
alone : (is_form : Bool) (b : ℕ) (rest : List ℕ) → (b == 37) ≡ false → tokens is_form (b ∷ rest) ≡ byte_token b ∷ tokens is_form rest
alone is_form b [] h = refl
alone is_form b (c ∷ []) h = refl
alone false b (c ∷ e ∷ rest) h = refl
alone true b (c ∷ e ∷ rest) h =
    ap (λ x. cond ((x && c == 53) && (e == 66 || e == 68)) (record { kind = cond (e == 66) Open Close; raw = b ∷ c ∷ e ∷ [] } ∷ tokens true rest) (byte_token b ∷ tokens true (c ∷ e ∷ rest))) h

other_than : (b k : ℕ) → (b == k) ≡ true → (k == 37) ≡ false → (b == 37) ≡ false
other_than b k e h = ap (λ x. x == 37) (eqb-true b k e) ∙ h

ends_at : (depth : ℕ) (k : TokenKind) → (is_amp k || is_equals k) ≡ true → ends_root depth k ≡ true
ends_at zero k e = e
ends_at (suc depth) k e = ap (λ x. x || is_open k) e

-- what a run finds at a byte that ends it
record Begins (b : ℕ) (more key : List ℕ) (stop : Option code.Token) (after : List ℕ) : Type 0 where
  empty : key ≡ []
  token : code.Token
  is : stop ≡ Some token
  kind : kind_of_token token.kind ≡ byte_kind b
  left : after ≡ more

module _ (depth : ℕ) (is_form : Bool) where
  begins : (b : ℕ) (more key : List ℕ) (stop : Option code.Token) (rest : List Token) (after : List ℕ) → key ≡ raw_of (cut (ends_root depth) (tokens is_form (b ∷ more))).0
      → (cut (ends_root depth) (tokens is_form (b ∷ more))).1 ≡ from_token stop rest → b ∷ more ≡ key ++ raw_from_token stop after → (b == 37) ≡ false → (is_amp (byte_kind b) || is_equals (byte_kind b)) ≡ true
      → Begins b more key stop after
  begins b more key stop rest after run token whole h e =
      let c : cut (ends_root depth) (tokens is_form (b ∷ more)) ≡ ([], byte_token b ∷ tokens is_form more) =
      ap (cut (ends_root depth)) (alone is_form b more h) ∙ ap (λ x. cut_at x (byte_token b) (tokens is_form more) (cut (ends_root depth) (tokens is_form more))) (ends_at depth (byte_kind b) e) in
      let none : key ≡ [] = run ∙ ap (λ (c : List Token × List Token). raw_of c.0) c in
      by stop none (sym (ap (λ (c : List Token × List Token). c.1) c) ∙ token) (whole ∙ ap (λ k. k ++ raw_from_token stop after) none)
    where
      by : (stop : Option code.Token) → key ≡ [] → byte_token b ∷ tokens is_form more ≡ from_token stop rest → b ∷ more ≡ raw_from_token stop after → Begins b more key stop after
      by None n t w = cc
      by (Some u) n t w =
          let same : byte_token b ≡ token_of u = cc in
          let raw : b ∷ [] ≡ u.raw.now = ap (λ (v : Token). v.raw) same in
          let all : b ∷ more ≡ b ∷ after = w ∙ ap (λ r. r ++ after) (sym raw) in
          record { empty = n; token = u; is = refl; kind = sym (ap (λ (v : Token). v.kind) same); left = cc }

  module _ (key : List ℕ) (stop : Option code.Token) (rest : List Token) (after : List ℕ) where
    -- an `&` with nothing before it
    pub unallocated_nothing : (bytes : List ℕ) (t : code.Token) → key ≡ raw_of (cut (ends_root depth) (tokens is_form bytes)).0 → (cut (ends_root depth) (tokens is_form bytes)).1 ≡ from_token stop rest → bytes ≡ key ++ raw_from_token stop after
        → AllocatesNothing bytes → is_nothing key stop ≡ true → stop ≡ Some t → is_ampersands after ≡ true
    unallocated_nothing bytes t run token whole unallocated nothing is = by (is_ampersands bytes) refl unallocated
      where
        value : (bytes : List ℕ) → is_unescaped_value bytes ≡ true → key ≡ raw_of (cut (ends_root depth) (tokens is_form bytes)).0 → (cut (ends_root depth) (tokens is_form bytes)).1 ≡ from_token stop rest → bytes ≡ key ++ raw_from_token stop after → ⊥
        value [] e run token whole = cc
        value (b ∷ v) e run token whole =
            let parts = and_both (b == 61) (is_unescaped v) e in
            let k : byte_kind b ≡ Equals = ap byte_kind (eqb-true b 61 parts.0) in
            let h = begins b v key stop rest after run token whole (other_than b 61 parts.0 refl) (ap (λ k. is_amp k || is_equals k) k) in
            let amp = and_both _ (is_amp (kind_of_token h.token.kind)) (sym (ap (is_nothing key) h.is) ∙ nothing) in
            let w : is_amp Equals ≡ true = sym (ap is_amp (h.kind ∙ k)) ∙ amp.1 in cc

        by : (x : Bool) → is_ampersands bytes ≡ x → (x || is_unescaped_value bytes) ≡ true → is_ampersands after ≡ true
        by true e s =
            let all = sym (list_all-append is_ampersand key (raw_from_token stop after)) ∙ ap is_ampersands (sym whole) ∙ e in
            let past_key = and_both (is_ampersands key) (is_ampersands (raw_from_token stop after)) all in
            let past_token = sym (list_all-append is_ampersand t.raw.now after) ∙ ap (λ o. is_ampersands (raw_from_token o after)) (sym is) ∙ past_key.1 in
            (and_both (is_ampersands t.raw.now) (is_ampersands after) past_token).1
        by false e s = absurd (value bytes s run token whole)

    -- an empty key before `=` and a value that is decoded to itself
    pub unallocated_value : (bytes : List ℕ) → key ≡ raw_of (cut (ends_root depth) (tokens is_form bytes)).0 → (cut (ends_root depth) (tokens is_form bytes)).1 ≡ from_token stop rest → bytes ≡ key ++ raw_from_token stop after
        → AllocatesNothing bytes → is_nothing key stop ≡ false → (key ≡ []) × IsEqualsStop stop × (is_unescaped after ≡ true)
    unallocated_value [] run token whole unallocated some = absurd (by stop token (sym (ap (λ k. is_nothing k stop) run) ∙ some))
      where
        by : (stop : Option code.Token) → [] ≡ from_token stop rest → is_nothing [] stop ≡ false → ⊥
        by None e d = cc
        by (Some t) e d = cc
    unallocated_value (b ∷ v) run token whole unallocated some = by (is_ampersands (b ∷ v)) refl unallocated
      where
        by : (x : Bool) → is_ampersands (b ∷ v) ≡ x → (x || is_unescaped_value (b ∷ v)) ≡ true → (key ≡ []) × IsEqualsStop stop × (is_unescaped after ≡ true)
        by true e s =
            let parts = and_both (b == 38) (is_ampersands v) e in
            let k : byte_kind b ≡ Amp = ap byte_kind (eqb-true b 38 parts.0) in
            let h = begins b v key stop rest after run token whole (other_than b 38 parts.0 refl) (ap (λ k. is_amp k || is_equals k) k) in
            let w : is_nothing [] (Some h.token) ≡ false = sym (ap₂ is_nothing h.empty h.is) ∙ some in
            let amp : is_amp (kind_of_token h.token.kind) ≡ true = ap is_amp (h.kind ∙ k) in
            absurd (cc)
        by false e s =
            let parts = and_both (b == 61) (is_unescaped v) s in
            let k : byte_kind b ≡ Equals = ap byte_kind (eqb-true b 61 parts.0) in
            let h = begins b v key stop rest after run token whole (other_than b 61 parts.0 refl) (ap (λ k. is_amp k || is_equals k) k) in
            (h.empty, subst IsEqualsStop (sym h.is) (ap is_equals (h.kind ∙ k)), ap is_unescaped h.left ∙ parts.1)

-- one item more of what is left of such an input
pub unallocated_start : (rest : List ℕ) (tree : OpenTree) → AllocatesNothing rest → IsFresh tree → StaysUnallocated rest tree
unallocated_start rest tree unallocated fresh = inr (unallocated, fresh)

pub unallocated_end : (rest : List ℕ) (tree : OpenTree) → rest ≡ [] → IsWithoutMaps tree → StaysUnallocated rest tree
unallocated_end rest tree none node_of_leaves = inl (none, node_of_leaves)

unallocated_parsed : (rest : List ℕ) (tree : OpenTree) → StaysUnallocated rest tree → AllocatesNothing rest
unallocated_parsed rest tree (inl h) = subst AllocatesNothing (sym h.0) refl
unallocated_parsed rest tree (inr h) = h.0

pub unallocated_goes : (rest : List ℕ) (tree : OpenTree) (o : Result item.Item parse_error.ParseError) (new : cursor.Cursor) (p : code_pair.Pair) → StaysUnallocated rest tree → (AllocatesNothing rest → ParsesUnallocated o new p) → ParsesUnallocated o new p
unallocated_goes rest tree o new p h f = f (unallocated_parsed rest tree h)

pub unallocated_ampersand : (old new : List ℕ) (tree : OpenTree) → length new < length old → StaysUnallocated old tree → is_ampersands new ≡ true → StaysUnallocated new tree
unallocated_ampersand old new tree shorter (inl h) amp = absurd (omega (arith, ap length h.0))
unallocated_ampersand old new tree shorter (inr h) amp = inr (ap (λ x. x || is_unescaped_value new) amp, h.1)

pub unallocated_fresh : (old new : List ℕ) (tree : OpenTree) → length new < length old → StaysUnallocated old tree → IsFresh tree
unallocated_fresh old new tree shorter (inl h) = absurd (omega (arith, ap length h.0))
unallocated_fresh old new tree shorter (inr h) = h.1

pub unallocated_leaves : (rest : List ℕ) (tree : OpenTree) → StaysUnallocated rest tree → IsWithoutMaps tree
unallocated_leaves rest tree (inl h) = h.1
unallocated_leaves rest tree (inr h) = (h.1.0, subst IsNoMap (sym (ap built_tree h.1.1 ∙ built_tree-fresh)) tt)
