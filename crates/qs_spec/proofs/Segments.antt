-- What holds of the segment of any bytes holds of every segment of an input.
use Rattle.std.proofs.Common.{ℕ, Bool, true, false, cond, ◌&&◌, ◌==◌, List, [], ◌∷◌, ◌++◌}
use Rattle.std.specs.List.{AllByRecursion}
use Rattle.qs_spec.specs.Segment.{Segment, segment_of, ParsedSegment}
use Rattle.qs_spec.specs.Token.{Token, raw_of, tokens, byte_token, is_escaped_bracket}
use Rattle.qs_spec.specs.Token.TokenKind.{Open, Close}
use Rattle.qs_spec.specs.Grammar.{Pair, root, longer, IsPair, IsBrackets, ArePairs}

abbrev pub HasBytes : List ℕ → Type 0
HasBytes [] = ⊥
HasBytes (b ∷ bytes) = Unit {0}

has_left : (xs ys : List ℕ) → HasBytes xs → HasBytes (xs ++ ys)
has_left [] ys h = absurd h
has_left (x ∷ xs) ys h = tt

has_right : (xs ys : List ℕ) → HasBytes ys → HasBytes (xs ++ ys)
has_right [] ys h = h
has_right (x ∷ xs) ys h = tt

abbrev AllRaw : List Token → Type 0
AllRaw ts = AllByRecursion (λ t. HasBytes t.raw) ts

all_right : (xs ys : List Token) → AllRaw (xs ++ ys) → AllRaw ys
all_right [] ys h = h
all_right (x ∷ xs) ys h = all_right xs ys h.1

all_left : (xs ys : List Token) → AllRaw (xs ++ ys) → AllRaw xs
all_left [] ys h = tt
all_left (x ∷ xs) ys h = (h.0, all_left xs ys h.1)

tokens_raw : (is_form : Bool) (bytes : List ℕ) → AllRaw (tokens is_form bytes)
tokens_raw is_form [] = tt
tokens_raw is_form (b ∷ []) = (tt, tt)
tokens_raw is_form (b ∷ c ∷ []) = (tt, (tt, tt))
tokens_raw is_form (b ∷ c ∷ e ∷ rest) = by (is_form && is_escaped_bracket b c e) (tokens_raw is_form rest) (tokens_raw is_form (c ∷ e ∷ rest))
  where
    by : (x : Bool) → AllRaw (tokens is_form rest) → AllRaw (tokens is_form (c ∷ e ∷ rest)) → AllRaw (cond x (record { kind = cond (e == 66) Open Close; raw = b ∷ c ∷ e ∷ [] } ∷ tokens is_form rest) (byte_token b ∷ tokens is_form (c ∷ e ∷ rest)))
    by true h i = (tt, h)
    by false h i = (tt, i)

-- every segment of a path, and of the paths of some pairs
abbrev pub AllOfPath : (Segment → Type 0) → List ParsedSegment → Type 0
AllOfPath P path = AllByRecursion (λ s. P s.segment) path

abbrev pub AllSegments : (Segment → Type 0) → List Pair → Type 0
AllSegments P ps = AllByRecursion (λ p. AllOfPath P p.path) ps

module _ (P : Segment → Type 0) (of : (raw : List ℕ) → HasBytes raw → P (segment_of raw)) where
  longer_all : (path : List ParsedSegment) (raw : List ℕ) → AllOfPath P path → HasBytes raw → AllOfPath P (longer path raw)
  longer_all [] raw n h = (of raw h, tt)
  longer_all (s ∷ path) raw n h = (n.0, longer_all path raw n.1 h)

  root_all : (key : List Token) → AllRaw key → AllOfPath P (root key)
  root_all [] h = tt
  root_all (t ∷ key) h = (of (raw_of (t ∷ key)) (has_left t.raw (raw_of key) h.0), tt)

  brackets_all : {room : ℕ} {path : List ParsedSegment} {bracket : List ℕ} {ts : List Token} {p : Pair} → IsBrackets room path bracket ts p → AllOfPath P path → AllRaw ts → AllOfPath P p.path
  brackets_all (IsBrackets.push e v) n h = n
  brackets_all (IsBrackets.segment {path = path} s t run value r e v) n h = longer_all path (raw_of (s ∷ run)) n (has_left s.raw (raw_of run) h.0)
  brackets_all (IsBrackets.more {path = path} s t u run rest r e d b) n h = brackets_all b (longer_all path (raw_of (s ∷ run)) n (has_left s.raw (raw_of run) h.0)) (all_right (s ∷ run) (t ∷ u ∷ rest) h).1.1
  brackets_all (IsBrackets.last {path = path} {bracket = bracket} t run value e r v) n h = longer_all path (bracket ++ t.raw ++ raw_of run) n (has_left (bracket ++ t.raw) (raw_of run) (has_right bracket t.raw h.0))

  pair_all : {depth : ℕ} {ts : List Token} {p : Pair} → IsPair depth ts p → AllRaw ts → AllOfPath P p.path
  pair_all (IsPair.name {t} {key} r) h = root_all (t ∷ key) h
  pair_all (IsPair.value t key value r v) h = root_all key (all_left key (t ∷ value) h)
  pair_all (IsPair.brackets t key rest r o d b) h = brackets_all b (root_all key (all_left key (t ∷ rest) h)) (all_right key (t ∷ rest) h).1

  pairs_all : {depth : ℕ} {ts : List Token} {ps : List Pair} → ArePairs depth ts ps → AllRaw ts → AllSegments P ps
  pairs_all ArePairs.none h = tt
  pairs_all (ArePairs.amp e p) h = pairs_all p h.1
  pairs_all (ArePairs.pair front rest p e ps) h = (pair_all p (all_left front rest h), pairs_all ps (all_right front rest h))

  pub all_segments : (is_form : Bool) (depth : ℕ) (bytes : List ℕ) (ps : List Pair) → ArePairs depth (tokens is_form bytes) ps → AllSegments P ps
  all_segments is_form depth bytes ps h = pairs_all h (tokens_raw is_form bytes)
