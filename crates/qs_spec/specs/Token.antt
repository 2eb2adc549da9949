-- The bytes of a querystring, cut into tokens.
use Rattle.std.specs.Prelude.{ℕ, Bool, ◌&&◌, ◌||◌, ◌==◌, List, [], ◌∷◌, if◌then◌else◌, flat_map}

-- `&`, `=`, an opening and a closing bracket, and any other byte
pub data TokenKind : Type 0 where
  Amp : TokenKind
  Equals : TokenKind
  Open : TokenKind
  Close : TokenKind
  Other : TokenKind

-- a kind, and the bytes that it is made of
pub record Token : Type 0 where
  pub kind : TokenKind
  pub raw : List ℕ

-- the kind of a byte that is a token by itself
abbrev pub byte_kind : ℕ → TokenKind
byte_kind b = if b == 38 then Amp else (if b == 61 then Equals else (if b == 91 then Open else (if b == 93 then Close else Other)))

-- that token
abbrev pub byte_token : ℕ → Token
byte_token b = record { kind = byte_kind b; raw = b ∷ [] }

-- `[` and `]`
abbrev pub is_bracket : ℕ → Bool
is_bracket b = b == 91 || b == 93

-- `%5B` and `%5D`
abbrev pub is_escaped_bracket : ℕ → ℕ → ℕ → Bool
is_escaped_bracket b c e = b == 37 && c == 53 && (e == 66 || e == 68)

-- the bytes cut from the left: each byte is a token, and in form mode `%5B` and `%5D` are brackets too
abbrev pub tokens : Bool → List ℕ → List Token
tokens is_form [] = []
tokens is_form (b ∷ []) = byte_token b ∷ []
tokens is_form (b ∷ c ∷ []) = byte_token b ∷ byte_token c ∷ []
tokens is_form (b ∷ c ∷ e ∷ rest) =
    if is_form && is_escaped_bracket b c e
    then record { kind = if e == 66 then Open else Close; raw = b ∷ c ∷ e ∷ [] } ∷ tokens is_form rest
    else byte_token b ∷ tokens is_form (c ∷ e ∷ rest)

-- the bytes of some tokens
abbrev pub raw_of : List Token → List ℕ
raw_of ts = flat_map (λ t. t.raw) ts
