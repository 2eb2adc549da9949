-- How the bytes of a querystring are encoded and decoded.
-- Query mode escapes the query percent-encode set of the URL Standard (section 1.3) and the separators of this notation;
-- form mode escapes the application/x-www-form-urlencoded percent-encode set (section 1.3), a space as `%20`.
use Rattle.std.specs.Prelude.{ℕ, ◌+◌, ◌*◌, ◌/◌, ◌%◌, Bool, true, false, not, ◌&&◌, ◌||◌, ◌==◌, nat_le, List, [], ◌∷◌, if◌then◌else◌, flat_map}
use Rattle.std.specs.List.{list_any}
use Rattle.std.specs.Char.{digit_value, is_digit}
use Rattle.std.specs.Fmt.{digit_glyph}

-- `%` and two upper case hexadecimal digits
abbrev pub escape : ℕ → List ℕ
escape b = 37 ∷ digit_glyph true (b / 16) ∷ digit_glyph true (b % 16) ∷ []

-- from `low` to `high`, both included
abbrev pub is_between : ℕ → ℕ → ℕ → Bool
is_between low high b = nat_le low b && nat_le b high

-- ASCII letters, digits, `*`, `-`, `.`, `_`
abbrev pub is_kept_in_form : ℕ → Bool
is_kept_in_form b = is_between 48 57 b || is_between 65 90 b || is_between 97 122 b || b == 42 || b == 45 || b == 46 || b == 95

-- all above the space and below 0x7F except `"`, `#`, `<`, `>`, `%`, `+`, `[`, `]`, `=`, `&`
abbrev pub is_kept_in_query : ℕ → Bool
is_kept_in_query b = is_between 33 126 b && not (b == 34 || b == 35 || b == 60 || b == 62 || b == 37 || b == 43 || b == 91 || b == 93 || b == 61 || b == 38)

-- one byte encoded, in form mode or in query mode
abbrev pub encoded_byte : Bool → ℕ → List ℕ
encoded_byte true b = if is_kept_in_form b then b ∷ [] else escape b
encoded_byte false b = if is_kept_in_query b then b ∷ [] else (if b == 32 then 43 ∷ [] else escape b)

-- encoded bytes, one after another
abbrev pub encoded : Bool → List ℕ → List ℕ
encoded is_form bytes = flat_map (encoded_byte is_form) bytes

-- `+` is a space
abbrev pub unplus : ℕ → ℕ
unplus b = if b == 43 then 32 else b

-- Decoded bytes, by cases on the first ones: `+` is a space, and `%` with two hexadecimal digits of either case is one byte. A broken
-- escape is kept: `%` and the byte after it if that isn't a digit, or `%` and the two bytes after it if only the second isn't a digit.
abbrev pub decoded : List ℕ → List ℕ
decoded [] = []
decoded (b ∷ []) = unplus b ∷ []
decoded (b ∷ c ∷ []) = if b == 37 then b ∷ c ∷ [] else unplus b ∷ decoded (c ∷ [])
decoded (b ∷ c ∷ e ∷ rest) =
    if b == 37
    then (if is_digit c 16 then (if is_digit e 16 then (16 * digit_value c + digit_value e) ∷ decoded rest else b ∷ c ∷ e ∷ decoded rest) else b ∷ c ∷ decoded (e ∷ rest))
    else unplus b ∷ decoded (c ∷ e ∷ rest)

-- the bytes hold `+` or `%`, so decoding may change them
abbrev pub has_escape : List ℕ → Bool
has_escape raw = list_any (λ b. b == 43 || b == 37) raw
