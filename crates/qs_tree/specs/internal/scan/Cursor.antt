-- What the methods of a cursor take.
use Rattle.std.specs.Prelude.{◌≡◌, ℕ, ◌+◌, ◌-◌, ◌≤◌, List, [], ◌∷◌, ◌++◌, take, drop, length, ◌==◌, Bool, true, false, Option, Some, None}
use Rattle.qs_spec.specs.Token.{TokenKind, Token, tokens, byte_kind}
use Rattle.qs_spec.specs.Grammar.{is_close, ends_last, ends_root}
use Rattle.qs_tree.specs.declared.scan.cursor.TokenKind as kind
use Rattle.qs_tree.specs.declared.scan.cursor.Token as token
use Rattle.qs_tree.specs.declared.scan.cursor.Until as until
use Rattle.qs_tree.specs.declared.scan.cursor.Cursor as cursor

-- from the kinds of the code to the kinds of the grammar
abbrev pub kind_of_token : kind.TokenKind → TokenKind
kind_of_token kind.TheVariants.Ampersand = TokenKind.Amp
kind_of_token kind.TheVariants.Equals = TokenKind.Equals
kind_of_token kind.TheVariants.Open = TokenKind.Open
kind_of_token kind.TheVariants.Close = TokenKind.Close
kind_of_token (kind.TheVariants.Other b) = TokenKind.Other

abbrev pub token_of : token.Token → Token
token_of t = record { kind = kind_of_token t.kind; raw = t.raw.now }

-- the kinds that end a run
abbrev pub ends_of : until.Until → TokenKind → Bool
ends_of until.TheVariants.Separator = ends_last
ends_of until.TheVariants.SeparatorOrOpen = ends_root 1
ends_of until.TheVariants.Close = is_close

-- the first token has this kind and this many bytes, and the others follow
abbrev pub BeginsWith : Bool → List ℕ → kind.TokenKind → ℕ → Type 0
BeginsWith is_form bytes k len = tokens is_form bytes ≡ record { kind = kind_of_token k; raw = take len bytes } ∷ tokens is_form (drop len bytes)

-- a byte that is no `%`, and so a token by itself, and that doesn't end a run
abbrev pub IsInside : (TokenKind → Bool) → ℕ → Type 0
IsInside ends b = ((b == 37) ≡ false) × (ends (byte_kind b) ≡ false)

-- the classes of the bytes that end a run, and of escapes
abbrev pub classes_of : until.Until → ℕ
classes_of until.TheVariants.Separator = 9
classes_of until.TheVariants.SeparatorOrOpen = 11
classes_of until.TheVariants.Close = 12

-- the tokens that are left
abbrev pub left : cursor.Cursor → List Token
left c = tokens c.is_form c.rest.now

-- the steps so far, and the bytes that are left
abbrev pub spent : cursor.Cursor → ℕ
spent c = c.steps + length c.rest.now

-- reaching the end is a step
abbrev pub looks : Option token.Token → ℕ
looks None = 1
looks (Some t) = 0

-- a token that was taken and those after it, or none at the end
abbrev pub from_token : Option token.Token → List Token → List Token
from_token None ts = []
from_token (Some t) ts = token_of t ∷ ts

-- the same as bytes
abbrev pub raw_from_token : Option token.Token → List ℕ → List ℕ
raw_from_token None rest = []
raw_from_token (Some t) rest = t.raw.now ++ rest

-- the bytes between a position and what is left
abbrev pub taken : List ℕ → List ℕ → List ℕ
taken start rest = take (length start - length rest) start

-- the bytes that are left are the last ones
abbrev pub IsLeft : List ℕ → List ℕ → Type 0
IsLeft start rest = rest ≡ drop (length start - length rest) start

-- the tokens begin with the `&` before the cursor; or there are none, and it is at the end
abbrev pub IsPast : List Token → cursor.Cursor → Type 0
IsPast [] c = c.rest.now ≡ []
IsPast (t ∷ ts) c = (t.kind ≡ TokenKind.Amp) × (ts ≡ left c)

-- whether the end was reached
abbrev pub ended_after : Option token.Token → Bool → Bool
ended_after None before = true
ended_after (Some t) before = before

-- after the end was reached, nothing is left
abbrev pub KnowsEnd : cursor.Cursor → Type 0
KnowsEnd c = c.ended ≡ true → c.rest.now ≡ []

-- whether reaching the end is still to be counted
abbrev pub to_come : Bool → ℕ
to_come true = 0
to_come false = 1

-- the steps of the whole input: those so far, and those that remain
abbrev pub in_all : cursor.Cursor → ℕ
in_all c = spent c + to_come c.ended

-- A cursor moved on: each byte that it took is a step, and so is reaching the end.
pub record GoesOn (old new : cursor.Cursor) : Type 0 where
  pub is_form : new.is_form ≡ old.is_form
  pub shorter : length new.rest.now ≤ length old.rest.now
  pub steps : in_all new ≡ in_all old
  pub end : KnowsEnd new
