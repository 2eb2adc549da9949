-- Escaped bytes as tokens.
use Rattle.std.proofs.Common.{◌≡◌, ℕ, Option, Some, None, ◌<◌, Bool, true, false, cond, not, ◌&&◌, ◌||◌, ◌==◌, List, [], ◌∷◌, ◌++◌, map, refl, sym, ap, ap₂, ◌∙◌, subst, append_assoc}
use Rattle.std.specs.List.{list_all, AllByRecursion}
use Rattle.std.proofs.lemmas.Bool.{agree_below_at}
use Rattle.qs_spec.specs.Escape.{encoded_byte, encoded}
use Rattle.qs_spec.specs.Leaf.{value_leaf}
use Rattle.qs_spec.specs.Token.{tokens, byte_token, is_escaped_bracket, Token, TokenKind, byte_kind, raw_of, is_bracket}
use Rattle.qs_spec.specs.Token.TokenKind.{Other}
use Rattle.qs_spec.specs.Written.{open_bytes, close_bytes, value_text}
use Rattle.qs_spec.specs.internal.WrittenEntries.{entry_leaf, IsSegment, IsValueOf}
use Rattle.qs_spec.specs.Grammar.{is_amp, IsValue}
use Rattle.qs_spec.proofs.Booleans.{and_both, not_of}

-- one byte is a token by itself where it begins no escaped bracket
abbrev begins_bracket : List ℕ → Bool
begins_bracket [] = false
begins_bracket (b ∷ []) = false
begins_bracket (b ∷ c ∷ []) = false
begins_bracket (b ∷ c ∷ e ∷ rest) = is_escaped_bracket b c e

pub token_of_byte : (is_form : Bool) (b : ℕ) (rest : List ℕ) → (is_form && begins_bracket (b ∷ rest)) ≡ false → tokens is_form (b ∷ rest) ≡ byte_token b ∷ tokens is_form rest
token_of_byte is_form b [] e = refl
token_of_byte is_form b (c ∷ []) e = refl
token_of_byte is_form b (c ∷ x ∷ rest) e = ap (λ t. cond t (record { kind = cond (x == 66) TokenKind.Open TokenKind.Close; raw = b ∷ c ∷ x ∷ [] } ∷ tokens is_form rest) (byte_token b ∷ tokens is_form (c ∷ x ∷ rest))) e

-- what is no `%` begins no bracket
pub no_bracket : (is_form : Bool) (b : ℕ) (rest : List ℕ) → (b == 37) ≡ false → (is_form && begins_bracket (b ∷ rest)) ≡ false
no_bracket false b rest e = refl
no_bracket true b [] e = refl
no_bracket true b (c ∷ []) e = refl
no_bracket true b (c ∷ x ∷ rest) e = ap (λ t. t && c == 53 && (x == 66 || x == 68)) e

abbrev others : List ℕ → List Token
others bytes = map byte_token bytes

abbrev pub is_other : TokenKind → Bool
is_other Other = true
is_other _ = false

-- of each byte: it is written as itself and is no `%`, or as an escape whose digits are no `%`; brackets apart
abbrev is_fine : Bool → ℕ → List ℕ → Bool
is_fine is_form b (x ∷ []) = not (x == 37)
is_fine is_form b (x ∷ y ∷ z ∷ []) = x == 37 && not (y == 37) && not (z == 37) && ((is_form && (b == 91 || b == 93)) || not (is_form && is_escaped_bracket x y z))
is_fine is_form b _ = false

fine : (is_form : Bool) (b : ℕ) → b < 256 → is_fine is_form b (encoded_byte is_form b) ≡ true
fine true b l = agree_below_at (λ b. is_fine true b (encoded_byte true b)) (λ b. true) 256 b refl l
fine false b l = agree_below_at (λ b. is_fine false b (encoded_byte false b)) (λ b. true) 256 b refl l

-- of each byte: no byte of its encoding is `&`, `=`, `[` or `]`
other_kinds : (is_form : Bool) (b : ℕ) → b < 256 → list_all (λ x. is_other (byte_kind x)) (encoded_byte is_form b) ≡ true
other_kinds true b l = agree_below_at (λ b. list_all (λ x. is_other (byte_kind x)) (encoded_byte true b)) (λ b. true) 256 b refl l
other_kinds false b l = agree_below_at (λ b. list_all (λ x. is_other (byte_kind x)) (encoded_byte false b)) (λ b. true) 256 b refl l

abbrev pub suits : Bool → TokenKind → Bool
suits true k = is_other k
suits false k = not (is_amp k)

suits_other : (no_brackets : Bool) (k : TokenKind) → is_other k ≡ true → suits no_brackets k ≡ true
suits_other true k e = e
suits_other false TokenKind.Amp e = cc
suits_other false TokenKind.Equals e = refl
suits_other false TokenKind.Open e = refl
suits_other false TokenKind.Close e = refl
suits_other false Other e = refl

-- bytes whose tokens suit, whatever follows
pub record Tokens (no_brackets is_form : Bool) (bytes rest : List ℕ) : Type 0 where
  pub toks : List Token
  pub suit : list_all (λ t. suits no_brackets t.kind) toks ≡ true
  pub raw : raw_of toks ≡ bytes
  pub whole : tokens is_form (bytes ++ rest) ≡ toks ++ tokens is_form rest

all_suit : (no_brackets : Bool) (xs : List ℕ) → list_all (λ x. is_other (byte_kind x)) xs ≡ true → list_all (λ t. suits no_brackets t.kind) (others xs) ≡ true
all_suit no_brackets [] e = refl
all_suit no_brackets (x ∷ xs) e =
    let h = and_both (is_other (byte_kind x)) _ e in
    ap₂ (λ a b. a && b) (suits_other no_brackets (byte_kind x) h.0) (all_suit no_brackets xs h.1)

three : (no_brackets is_form : Bool) (b x y z : ℕ) (rest : List ℕ) → (y == 37) ≡ false → (z == 37) ≡ false → ((is_form && is_bracket b) || not (is_form && is_escaped_bracket x y z)) ≡ true
    → list_all (λ x. is_other (byte_kind x)) (x ∷ y ∷ z ∷ []) ≡ true → (no_brackets && (is_form && is_bracket b)) ≡ false → Tokens no_brackets is_form (x ∷ y ∷ z ∷ []) rest
three no_brackets is_form b x y z rest ey ez f o n = by no_brackets (is_form && is_bracket b) (is_form && is_escaped_bracket x y z) refl f n o
  where
    no_amp : (c : Bool) → not (is_amp (cond c TokenKind.Open TokenKind.Close)) ≡ true
    no_amp true = refl
    no_amp false = refl

    by : (no_brackets a c : Bool) → (is_form && is_escaped_bracket x y z) ≡ c → (a || not c) ≡ true → (no_brackets && a) ≡ false → list_all (λ x. is_other (byte_kind x)) (x ∷ y ∷ z ∷ []) ≡ true → Tokens no_brackets is_form (x ∷ y ∷ z ∷ []) rest
    by no_brackets a false e f n o = record {
      toks = byte_token x ∷ byte_token y ∷ byte_token z ∷ [];
      suit = all_suit no_brackets (x ∷ y ∷ z ∷ []) o;
      raw = refl;
      whole = token_of_byte is_form x (y ∷ z ∷ rest) e ∙ ap (λ l. byte_token x ∷ l) (token_of_byte is_form y (z ∷ rest) (no_bracket is_form y (z ∷ rest) ey) ∙ ap (λ l. byte_token y ∷ l) (token_of_byte is_form z rest (no_bracket is_form z rest ez)));
    }
    by true true true e f n o = cc
    by true false true e f n o = cc
    by false false true e f n o = cc
    by false true true e f n o = record {
      toks = record { kind = cond (z == 66) TokenKind.Open TokenKind.Close; raw = x ∷ y ∷ z ∷ [] } ∷ [];
      suit = ap (λ t. t && true) (no_amp (z == 66));
      raw = refl;
      whole = ap (λ t. cond t (record { kind = cond (z == 66) TokenKind.Open TokenKind.Close; raw = x ∷ y ∷ z ∷ [] } ∷ tokens is_form rest) (byte_token x ∷ tokens is_form (y ∷ z ∷ rest))) e;
    }

tokens_of : (no_brackets is_form : Bool) (b : ℕ) (xs rest : List ℕ) → is_fine is_form b xs ≡ true → list_all (λ x. is_other (byte_kind x)) xs ≡ true → (no_brackets && (is_form && is_bracket b)) ≡ false → Tokens no_brackets is_form xs rest
tokens_of no_brackets is_form b [] rest f o n = cc
tokens_of no_brackets is_form b (x ∷ []) rest f o n = record { toks = byte_token x ∷ []; suit = all_suit no_brackets (x ∷ []) o; raw = refl; whole = token_of_byte is_form x rest (no_bracket is_form x rest (not_of (x == 37) f)) }
tokens_of no_brackets is_form b (x ∷ y ∷ []) rest f o n = cc
tokens_of no_brackets is_form b (x ∷ y ∷ z ∷ []) rest f o n =
    let g = and_both (x == 37 && not (y == 37) && not (z == 37)) _ f in
    let h = and_both (x == 37 && not (y == 37)) (not (z == 37)) g.0 in
    three no_brackets is_form b x y z rest (not_of (y == 37) (and_both (x == 37) (not (y == 37)) h.0).1) (not_of (z == 37) h.1) g.1 o n
tokens_of no_brackets is_form b (x ∷ y ∷ z ∷ w ∷ xs) rest f o n = cc

list_all-append' : (p : Token → Bool) (xs ys : List Token) → list_all p xs ≡ true → list_all p ys ≡ true → list_all p (xs ++ ys) ≡ true
list_all-append' p [] ys e f = f
list_all-append' p (x ∷ xs) ys e f = let h = and_both (p x) (list_all p xs) e in ap₂ (λ a b. a && b) h.0 (list_all-append' p xs ys h.1 f)

raw-append : (xs ys : List Token) → raw_of (xs ++ ys) ≡ raw_of xs ++ raw_of ys
raw-append [] ys = refl
raw-append (x ∷ xs) ys = ap (λ l. x.raw ++ l) (raw-append xs ys) ∙ sym (append_assoc x.raw (raw_of xs) (raw_of ys))

joined : (no_brackets is_form : Bool) (a b rest : List ℕ) → Tokens no_brackets is_form a (b ++ rest) → Tokens no_brackets is_form b rest → Tokens no_brackets is_form (a ++ b) rest
joined no_brackets is_form a b rest s t = record {
  toks = s.toks ++ t.toks;
  suit = list_all-append' (λ t. suits no_brackets t.kind) s.toks t.toks s.suit t.suit;
  raw = raw-append s.toks t.toks ∙ ap₂ (λ x y. x ++ y) s.raw t.raw;
  whole = ap (tokens is_form) (append_assoc a b rest) ∙ s.whole ∙ ap (λ l. s.toks ++ l) t.whole ∙ sym (append_assoc s.toks t.toks (tokens is_form rest));
}

abbrev pub AreBytes : List ℕ → Type 0
AreBytes s = AllByRecursion (λ b. b < 256) s

-- in form mode a key has no bracket
abbrev pub IsClear : Bool → Bool → List ℕ → Type 0
IsClear no_brackets is_form s = AllByRecursion (λ b. (no_brackets && (is_form && is_bracket b)) ≡ false) s

pub encoded_tokens : (no_brackets is_form : Bool) (s rest : List ℕ) → AreBytes s → IsClear no_brackets is_form s → Tokens no_brackets is_form (encoded is_form s) rest
encoded_tokens no_brackets is_form [] rest l n = record { toks = []; suit = refl; raw = refl; whole = refl }
encoded_tokens no_brackets is_form (b ∷ s) rest l n =
    joined no_brackets is_form (encoded_byte is_form b) (encoded is_form s) rest (tokens_of no_brackets is_form b (encoded_byte is_form b) (encoded is_form s ++ rest) (fine is_form b l.0) (other_kinds is_form b l.0) n.0) (encoded_tokens no_brackets is_form s rest l.1 n.1)

abbrev pub open_token : Bool → Token
open_token is_form = record { kind = TokenKind.Open; raw = open_bytes is_form }

abbrev pub close_token : Bool → Token
close_token is_form = record { kind = TokenKind.Close; raw = close_bytes is_form }

pub open_first : (is_form : Bool) (rest : List ℕ) → tokens is_form (open_bytes is_form ++ rest) ≡ open_token is_form ∷ tokens is_form rest
open_first true rest = refl
open_first false rest = token_of_byte false 91 rest refl

pub close_first : (is_form : Bool) (rest : List ℕ) → tokens is_form (close_bytes is_form ++ rest) ≡ close_token is_form ∷ tokens is_form rest
close_first true rest = refl
close_first false rest = token_of_byte false 93 rest refl

pub clear_value : (is_form : Bool) (v : List ℕ) → IsClear false is_form v
clear_value is_form [] = tt
clear_value is_form (b ∷ v) = (refl, clear_value is_form v)

-- tokens that are something, and what follows
pub record Front (Is : List Token → Type 0) (is_form : Bool) (bytes rest : List ℕ) : Type 0 where
  pub toks : List Token
  pub is : Is toks
  pub whole : tokens is_form (bytes ++ rest) ≡ toks ++ tokens is_form rest

pub value_front : (is_form : Bool) (v : Option (List ℕ)) (rest : List ℕ) → IsValueOf ([] ∷ []) v → Front (λ ts. IsValue ts (entry_leaf is_form v)) is_form (value_text is_form v) rest
value_front is_form None rest h = record { toks = []; is = IsValue.none; whole = refl }
value_front is_form (Some v) rest h =
    let t = encoded_tokens false is_form v rest h (clear_value is_form v) in
    record {
      toks = byte_token 61 ∷ t.toks;
      is = subst (λ (raw : List ℕ). IsValue (byte_token 61 ∷ t.toks) (value_leaf raw)) t.raw (IsValue.some refl t.suit);
      whole = token_of_byte is_form 61 (encoded is_form v ++ rest) (no_bracket is_form 61 (encoded is_form v ++ rest) refl) ∙ ap (λ l. byte_token 61 ∷ l) t.whole;
    }

-- a segment's tokens: one at least, all of them other
pub record SegmentTokens (is_form : Bool) (s rest : List ℕ) : Type 0 where
  pub first : Token
  pub more : List Token
  pub run : list_all (λ t. is_other t.kind) (first ∷ more) ≡ true
  pub raw : raw_of (first ∷ more) ≡ encoded is_form s
  pub whole : tokens is_form (encoded is_form s ++ rest) ≡ first ∷ more ++ tokens is_form rest

pub segment_tokens : (is_form : Bool) (s rest : List ℕ) → IsSegment is_form s → SegmentTokens is_form s rest
segment_tokens is_form [] rest h = absurd h
segment_tokens is_form (b ∷ s) rest h = by (t.toks) t.suit t.raw t.whole
  where
    lows : (s : List ℕ) → AllByRecursion (λ b. (b < 256) × ((is_form && (b == 91 || b == 93)) ≡ false)) s → AreBytes s
    lows [] h = tt
    lows (b ∷ s) h = (h.0.0, lows s h.1)

    clears : (s : List ℕ) → AllByRecursion (λ b. (b < 256) × ((is_form && (b == 91 || b == 93)) ≡ false)) s → IsClear true is_form s
    clears [] h = tt
    clears (b ∷ s) h = (h.0.1, clears s h.1)

    t : Tokens true is_form (encoded is_form (b ∷ s)) rest
    t = encoded_tokens true is_form (b ∷ s) rest (lows (b ∷ s) h) (clears (b ∷ s) h)

    some_of : (xs ys : List ℕ) → is_fine is_form b xs ≡ true → [] ≡ xs ++ ys → ⊥
    some_of [] ys f e = cc
    some_of (x ∷ xs) ys f e = cc

    by : (toks : List Token) → list_all (λ t. is_other t.kind) toks ≡ true → raw_of toks ≡ encoded is_form (b ∷ s) → tokens is_form (encoded is_form (b ∷ s) ++ rest) ≡ toks ++ tokens is_form rest → SegmentTokens is_form (b ∷ s) rest
    by [] u r w = absurd (some_of (encoded_byte is_form b) (encoded is_form s) (fine is_form b h.0.0) r)
    by (first ∷ more) u r w = record { first = first; more = more; run = u; raw = r; whole = w }
