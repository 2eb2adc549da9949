-- The grammar: which pairs a list of tokens is parsed as.
use Rattle.std.specs.Prelude.{◌≡◌, ℕ, zero, suc, Bool, true, false, ◌||◌, not, List, [], ◌∷◌, ◌++◌, IsTrue, IsFalse}
use Rattle.std.specs.List.{list_all}
use Rattle.qs_spec.specs.Token.{TokenKind, Token, raw_of}
use Rattle.qs_spec.specs.Segment.{ParsedSegment, parsed_segment_of}
use Rattle.qs_spec.specs.Leaf.{Leaf, value_leaf}
use Rattle.qs_spec.specs.Token.TokenKind.{Amp, Equals, Open, Close}
use Rattle.qs_spec.specs.Leaf.Leaf.{NoValue}

-- A pair whose key ends in `[]` pushes its leaf onto a sequence; any other pair assigns it.
pub record Pair : Type 0 where
  pub path : List ParsedSegment
  pub push : Bool
  pub leaf : Leaf

-- the two kinds of pairs
abbrev pub assigned : List ParsedSegment → Leaf → Pair
assigned path leaf = record { path = path; push = false; leaf = leaf }

abbrev pub pushed : List ParsedSegment → Leaf → Pair
pushed path leaf = record { path = path; push = true; leaf = leaf }

-- the kind of a token
abbrev pub is_amp : TokenKind → Bool
is_amp Amp = true
is_amp _ = false

abbrev pub is_equals : TokenKind → Bool
is_equals Equals = true
is_equals _ = false

abbrev pub is_open : TokenKind → Bool
is_open Open = true
is_open _ = false

abbrev pub is_close : TokenKind → Bool
is_close Close = true
is_close _ = false

-- what ends the last key
abbrev pub ends_last : TokenKind → Bool
ends_last k = is_amp k || is_equals k

-- what ends a root key: also an opening bracket, if the depth limit is above 0
abbrev pub ends_root : ℕ → TokenKind → Bool
ends_root zero k = ends_last k
ends_root (suc depth) k = ends_last k || is_open k

-- a run without what ends it
abbrev pub IsRun : (TokenKind → Bool) → List Token → Type 0
IsRun ends ts = IsTrue (list_all (λ t. not (ends t.kind)) ts)

-- the path of a root key
abbrev pub root : List Token → List ParsedSegment
root [] = []
root (t ∷ key) = parsed_segment_of (raw_of (t ∷ key)) ∷ []

-- a path and one segment more
abbrev pub longer : List ParsedSegment → List ℕ → List ParsedSegment
longer path raw = path ++ parsed_segment_of raw ∷ []

-- nothing, or `=` and a value
pub data IsValue : List Token → Leaf → Type 0 where
  none : IsValue [] NoValue
  some : {t : Token} {v : List Token} → t.kind ≡ Equals → IsRun is_amp v → IsValue (t ∷ v) (value_leaf (raw_of v))

-- What follows a path and an opening bracket with these bytes. At most `room` more segments are allowed. It is a push, a segment if
-- one more is allowed, or the last key otherwise.
pub data IsBrackets : ℕ → List ParsedSegment → List ℕ → List Token → Pair → Type 0 where
  push : {room : ℕ} {path : List ParsedSegment} {bracket : List ℕ} {t : Token} {value : List Token} {leaf : Leaf}
      → t.kind ≡ Close → IsValue value leaf
      → IsBrackets room path bracket (t ∷ value) (pushed path leaf)
  segment : {room : ℕ} {path : List ParsedSegment} {bracket : List ℕ} {leaf : Leaf} (s t : Token) (run value : List Token)
      → IsRun is_close (s ∷ run) → t.kind ≡ Close → IsValue value leaf
      → IsBrackets (suc room) path bracket (s ∷ run ++ t ∷ value) (assigned (longer path (raw_of (s ∷ run))) leaf)
  more : {room : ℕ} {path : List ParsedSegment} {bracket : List ℕ} {pair : Pair} (s t u : Token) (run rest : List Token)
      → IsRun is_close (s ∷ run) → t.kind ≡ Close → u.kind ≡ Open
      → IsBrackets room (longer path (raw_of (s ∷ run))) u.raw rest pair
      → IsBrackets (suc room) path bracket (s ∷ run ++ t ∷ u ∷ rest) pair
  last : {path : List ParsedSegment} {bracket : List ℕ} {leaf : Leaf} (t : Token) (run value : List Token)
      → IsFalse (is_close t.kind) → IsRun ends_last run → IsValue value leaf
      → IsBrackets 0 path bracket (t ∷ run ++ value) (assigned (longer path (bracket ++ t.raw ++ raw_of run)) leaf)

-- the tokens are one pair
pub data IsPair (depth : ℕ) : List Token → Pair → Type 0 where
  name : {t : Token} {key : List Token}
      → IsRun (ends_root depth) (t ∷ key)
      → IsPair depth (t ∷ key) (assigned (root (t ∷ key)) NoValue)
  value : {leaf : Leaf} (t : Token) (key value : List Token)
      → IsRun (ends_root depth) key → IsValue (t ∷ value) leaf
      → IsPair depth (key ++ t ∷ value) (assigned (root key) leaf)
  brackets : {pair : Pair} (t : Token) (key rest : List Token)
      → IsRun (ends_root depth) key → IsTrue (is_open t.kind) → IsTrue (ends_root depth Open) → IsBrackets depth (root key) t.raw rest pair
      → IsPair depth (key ++ t ∷ rest) pair

-- there are no tokens, or the first is `&`
abbrev pub IsEnd : List Token → Type 0
IsEnd [] = Unit {0}
IsEnd (t ∷ rest) = t.kind ≡ Amp

-- the tokens are these pairs, separated by `&`, with any number of additional `&`
pub data ArePairs (depth : ℕ) : List Token → List Pair → Type 0 where
  none : ArePairs depth [] []
  amp : {t : Token} {rest : List Token} {pairs : List Pair} → t.kind ≡ Amp → ArePairs depth rest pairs → ArePairs depth (t ∷ rest) pairs
  pair : {pair : Pair} {pairs : List Pair} (front rest : List Token)
      → IsPair depth front pair → IsEnd rest → ArePairs depth rest pairs → ArePairs depth (front ++ rest) (pair ∷ pairs)
