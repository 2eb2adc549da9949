-- The grammar as a function: it parses the pairs of some tokens from the left, and returns what it parsed and the remaining tokens.
use Rattle.std.specs.Prelude.{ℕ, zero, suc, Bool, true, false, List, [], ◌∷◌, ◌++◌, length, Option, Some, None, option_map}
use Rattle.qs_spec.specs.Token.{TokenKind, Token, raw_of}
use Rattle.qs_spec.specs.Segment.{ParsedSegment}
use Rattle.qs_spec.specs.Leaf.{Leaf, value_leaf}
use Rattle.qs_spec.specs.Token.TokenKind.{Amp, Equals, Open, Close, Other}
use Rattle.qs_spec.specs.Leaf.Leaf.{NoValue}
use Rattle.qs_spec.specs.Grammar.{Pair, assigned, pushed, is_amp, is_close, ends_last, ends_root, root, longer}

-- what was parsed and the remaining tokens, or None if the tokens can't be parsed so
abbrev pub Rest : Type 0 → Type 0
Rest A = Option (A × List Token)

-- the tokens before the first that ends a run, and that one with the rest
abbrev pub cut_at : Bool → Token → List Token → List Token × List Token → List Token × List Token
cut_at true t ts more = ([], t ∷ ts)
cut_at false t ts more = (t ∷ more.0, more.1)

abbrev pub cut : (TokenKind → Bool) → List Token → List Token × List Token
cut ends [] = ([], [])
cut ends (t ∷ ts) = cut_at (ends t.kind) t ts (cut ends ts)

-- the leaf of a value
abbrev pub valued : List Token × List Token → Rest Leaf
valued c = Some (value_leaf (raw_of c.0), c.1)

-- what follows a key: `=` and a value, or nothing before `&`
abbrev pub value_at : TokenKind → Token → List Token → Rest Leaf
value_at Amp t ts = Some (NoValue, t ∷ ts)
value_at Equals t ts = valued (cut is_amp ts)
value_at Open t ts = None
value_at Close t ts = None
value_at Other t ts = None

-- the same, if the tokens may have ended
abbrev pub parsed_value : List Token → Rest Leaf
parsed_value [] = Some (NoValue, [])
parsed_value (t ∷ ts) = value_at t.kind t ts

-- a pair with the leaf that was parsed
abbrev pub with_leaf : (Leaf → Pair) → Rest Leaf → Rest Pair
with_leaf pair None = None
with_leaf pair (Some r) = Some (pair r.0, r.1)

-- from a path, the bytes of an opening bracket and the tokens after it to a pair
abbrev pub Brackets : Type 0
Brackets = List ParsedSegment → List ℕ → List Token → Rest Pair

-- after a closing bracket: another bracket, or what follows a key
abbrev pub after_close_at : TokenKind → Brackets → List ParsedSegment → Token → List Token → Rest Pair
after_close_at Open brackets q u rest = brackets q u.raw rest
after_close_at Amp brackets q u rest = with_leaf (assigned q) (value_at Amp u rest)
after_close_at Equals brackets q u rest = with_leaf (assigned q) (value_at Equals u rest)
after_close_at Close brackets q u rest = None
after_close_at Other brackets q u rest = None

abbrev pub after_close : Brackets → List ParsedSegment → List Token → Rest Pair
after_close brackets q [] = with_leaf (assigned q) (parsed_value [])
after_close brackets q (u ∷ rest) = after_close_at u.kind brackets q u rest

-- after the bytes of a segment, at its closing bracket
abbrev pub after_run : Brackets → List ParsedSegment → List Token → Rest Pair
after_run brackets q [] = None
after_run brackets q (t ∷ rest) = after_close brackets q rest

-- the last key, if no more brackets may open: it goes up to `&` or `=`
abbrev pub last_key : List ParsedSegment → List ℕ → Token → List Token × List Token → Rest Pair
last_key path bracket t c = with_leaf (assigned (longer path (bracket ++ t.raw ++ raw_of c.0))) (parsed_value c.1)

-- after an opening bracket, if no more may open, and if more may: a push, or a key
abbrev pub in_last : Bool → List ParsedSegment → List ℕ → Token → List Token → Rest Pair
in_last true path bracket t ts = with_leaf (pushed path) (parsed_value ts)
in_last false path bracket t ts = last_key path bracket t (cut ends_last ts)

abbrev pub in_segment : Bool → Brackets → List ParsedSegment → Token → List Token → Rest Pair
in_segment true brackets path t ts = with_leaf (pushed path) (parsed_value ts)
in_segment false brackets path t ts = after_run brackets (longer path (raw_of (t ∷ (cut is_close ts).0))) (cut is_close ts).1

-- after an opening bracket, if this many more may open
abbrev pub parsed_brackets : ℕ → Brackets
parsed_brackets zero path bracket [] = None
parsed_brackets zero path bracket (t ∷ ts) = in_last (is_close t.kind) path bracket t ts
parsed_brackets (suc room) path bracket [] = None
parsed_brackets (suc room) path bracket (t ∷ ts) = in_segment (is_close t.kind) (parsed_brackets room) path t ts

-- only a root key, if there is one
abbrev pub named : List Token → List Token → Rest Pair
named [] rest = None
named (t ∷ key) rest = Some (assigned (root (t ∷ key)) NoValue, rest)

-- after a root key, by the token that ends it
abbrev pub after_root_at : TokenKind → ℕ → List Token → Token → List Token → Rest Pair
after_root_at Amp depth key t rest = named key (t ∷ rest)
after_root_at Equals depth key t rest = with_leaf (assigned (root key)) (value_at Equals t rest)
after_root_at Open depth key t rest = parsed_brackets depth (root key) t.raw rest
after_root_at Close depth key t rest = None
after_root_at Other depth key t rest = None

abbrev pub after_root : ℕ → List Token → List Token → Rest Pair
after_root depth key [] = named key []
after_root depth key (t ∷ rest) = after_root_at t.kind depth key t rest

-- the first pair of the tokens
abbrev pub parsed_pair : ℕ → List Token → Rest Pair
parsed_pair depth ts = after_root depth (cut (ends_root depth) ts).0 (cut (ends_root depth) ts).1

-- one pair, and then the others
abbrev pub parsed_pairs_at : Bool → Option (List Pair) → Rest Pair → (List Token → Option (List Pair)) → Option (List Pair)
parsed_pairs_at true skipped pair more = skipped
parsed_pairs_at false skipped None more = None
parsed_pairs_at false skipped (Some r) more = option_map (λ ps. r.0 ∷ ps) (more r.1)

-- The number bounds the steps. The number of tokens is always enough.
abbrev pub parsed_pairs_within : ℕ → ℕ → List Token → Option (List Pair)
parsed_pairs_within depth zero [] = Some []
parsed_pairs_within depth zero (t ∷ ts) = None
parsed_pairs_within depth (suc n) [] = Some []
parsed_pairs_within depth (suc n) (t ∷ ts) = parsed_pairs_at (is_amp t.kind) (parsed_pairs_within depth n ts) (parsed_pair depth (t ∷ ts)) (parsed_pairs_within depth n)

-- all pairs of the tokens
abbrev pub parsed_pairs : ℕ → List Token → Option (List Pair)
parsed_pairs depth ts = parsed_pairs_within depth (length ts) ts

-- a pair that was parsed, and the pairs of the remaining tokens
abbrev pub and_pairs : ℕ → Rest Pair → Option (List Pair)
and_pairs depth None = None
and_pairs depth (Some r) = option_map (λ ps. r.0 ∷ ps) (parsed_pairs depth r.1)
