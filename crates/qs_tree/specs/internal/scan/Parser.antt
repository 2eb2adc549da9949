-- What the functions that parse a pair return.
use Rattle.std.specs.Prelude.{◌≡◌, ℕ, List, [], ◌∷◌, ◌++◌, Option, Some, None, Result, Ok, Err, option_map, IsTrue, Bool, true, false, ◌&&◌, ◌==◌, length}
use Rattle.qs_spec.specs.Token.{TokenKind, Token, Amp, Equals, Open, Close, Other}
use Rattle.qs_spec.specs.Segment.{ParsedSegment, parsed_segment_of}
use Rattle.qs_spec.specs.Leaf.{Leaf}
use Rattle.qs_spec.specs.Grammar.{Pair, is_amp, assigned, ends_last, ends_root}
use Rattle.qs_spec.specs.internal.Parsing.{Rest, with_leaf, parsed_value, parsed_brackets, parsed_pairs}
use Rattle.qs_tree.specs.declared.scan.cursor.Token as token
use Rattle.qs_tree.specs.declared.scan.cursor.Cursor as cursor
use Rattle.std.specs.declared.alloc.AllocError.{AllocError}
use Rattle.qs_tree.specs.declared.scan.pair.Leaf as code
use Rattle.qs_tree.specs.declared.scan.pair.Pair as code_pair
use Rattle.qs_tree.specs.declared.scan.parser.Item as item
use Rattle.qs_tree.specs.declared.scan.parser.ParseError as parse_error
use Rattle.qs_tree.specs.internal.scan.Pairs.{leaf_of, pair_of}
use Rattle.qs_tree.specs.internal.scan.Cursor.{kind_of_token, left, IsPast}

-- the end, `&` or `=`
abbrev pub IsClosing : Option token.Token → Type 0
IsClosing None = Unit {0}
IsClosing (Some t) = IsTrue (ends_last (kind_of_token t.kind))

-- the same, or an opening bracket
abbrev pub IsRootStop : Option token.Token → Type 0
IsRootStop None = Unit {0}
IsRootStop (Some t) = IsTrue (ends_root 1 (kind_of_token t.kind))

-- the cursor is after this token, and hasn't reached the end
abbrev pub Follows : token.Token → cursor.Cursor → Type 0
Follows t c = (t.position.rest.now ≡ t.raw.now ++ c.rest.now) × (c.ended ≡ false)

-- the same, or it has reached the end
abbrev pub FollowsStop : Option token.Token → cursor.Cursor → Type 0
FollowsStop None c = (c.rest.now ≡ []) × (c.ended ≡ true)
FollowsStop (Some t) c = Follows t c

-- the leaf is the expected one, and the cursor is after its value; or an allocation failed
abbrev pub ParsesLeaf : Rest Leaf → Result code.Leaf AllocError → cursor.Cursor → Type 0
ParsesLeaf found (Ok l) new = (rest : List Token) × (found ≡ Some (leaf_of l, rest)) × IsPast rest new
ParsesLeaf found (Err e) new = Unit {0}

-- nothing is expected, or an allocation failed
abbrev pub IsParseError : {A : Type 0} → Option A → parse_error.ParseError → Type 0
IsParseError found (parse_error.TheVariants.Syntax error) = found ≡ None
IsParseError found parse_error.TheVariants.OutOfMemory = Unit {0}

-- the pair is the expected one, and the cursor is after it
abbrev pub ParsesPair : {A : Type 0} → Rest Pair → Result A parse_error.ParseError → cursor.Cursor → code_pair.Pair → Type 0
ParsesPair found (Ok a) new p = (rest : List Token) × (found ≡ Some (pair_of p, rest)) × IsPast rest new
ParsesPair found (Err f) new p = IsParseError found f

-- the tokens are no pairs, the remaining tokens, or one pair and the remaining tokens; or they aren't pairs
abbrev pub ParsesItem : ℕ → List Token → Result item.Item parse_error.ParseError → cursor.Cursor → code_pair.Pair → Type 0
ParsesItem depth ts (Ok item.TheVariants.End) new p = parsed_pairs depth ts ≡ Some []
ParsesItem depth ts (Ok item.TheVariants.Ampersand) new p = parsed_pairs depth ts ≡ parsed_pairs depth (left new)
ParsesItem depth ts (Ok item.TheVariants.Pair) new p = parsed_pairs depth ts ≡ option_map (λ ps. pair_of p ∷ ps) (parsed_pairs depth (left new))
ParsesItem depth ts (Err f) new p = IsParseError (parsed_pairs depth ts) f

-- the end was reached
abbrev pub IsEnd : Result item.Item parse_error.ParseError → Type 0
IsEnd (Ok item.TheVariants.End) = Unit {0}
IsEnd o = ⊥

-- something was parsed
abbrev pub IsMore : Result item.Item parse_error.ParseError → Type 0
IsMore (Ok item.TheVariants.End) = ⊥
IsMore (Ok i) = Unit {0}
IsMore (Err e) = ⊥

-- an empty root key before `&` or the end
abbrev pub is_nothing : List ℕ → Option token.Token → Bool
is_nothing raw None = length raw == 0
is_nothing raw (Some t) = length raw == 0 && is_amp (kind_of_token t.kind)

-- the path of a root key with these raw bytes
abbrev pub root_path : List ℕ → List ParsedSegment
root_path [] = []
root_path (b ∷ raw) = parsed_segment_of (b ∷ raw) ∷ []

-- what is found after a root key with these raw bytes
abbrev pub from_root_at : TokenKind → ℕ → List ParsedSegment → Token → List Token → Rest Pair
from_root_at Open depth path t rest = parsed_brackets depth path t.raw rest
from_root_at Amp depth path t rest = with_leaf (assigned path) (parsed_value (t ∷ rest))
from_root_at Equals depth path t rest = with_leaf (assigned path) (parsed_value (t ∷ rest))
from_root_at Close depth path t rest = None
from_root_at Other depth path t rest = None

abbrev pub from_root : ℕ → List ℕ → List Token → Rest Pair
from_root depth raw [] = with_leaf (assigned (root_path raw)) (parsed_value [])
from_root depth raw (t ∷ rest) = from_root_at t.kind depth (root_path raw) t rest
