-- The query of a URI: RFC 3986, section 3.4, with the rules of appendix A that it uses.
use Rattle.std.specs.Prelude.{ℕ, Bool, true, false, not, ◌&&◌, ◌||◌, ◌==◌, List, [], ◌∷◌, if◌then◌else◌}
use Rattle.std.specs.Char.{is_digit}
use Rattle.qs_spec.specs.Escape.{is_between}
use Rattle.qs_spec.specs.Token.{is_bracket}

-- unreserved = ALPHA / DIGIT / "-" / "." / "_" / "~"
abbrev pub is_unreserved : ℕ → Bool
is_unreserved b = is_between 65 90 b || is_between 97 122 b || is_between 48 57 b || b == 45 || b == 46 || b == 95 || b == 126

-- sub-delims = "!" / "$" / "&" / "'" / "(" / ")" / "*" / "+" / "," / ";" / "="
abbrev pub is_sub_delim : ℕ → Bool
is_sub_delim b = b == 33 || b == 36 || b == 38 || b == 39 || b == 40 || b == 41 || b == 42 || b == 43 || b == 44 || b == 59 || b == 61

-- the alternatives of one byte in pchar / "/" / "?", where pchar = unreserved / pct-encoded / sub-delims / ":" / "@"
abbrev pub is_query_byte : ℕ → Bool
is_query_byte b = is_unreserved b || is_sub_delim b || b == 58 || b == 64 || b == 47 || b == 63

-- query = *( pchar / "/" / "?" ), where pct-encoded = "%" HEXDIG HEXDIG; some other bytes may be in it too
abbrev pub is_query_with : (ℕ → Bool) → List ℕ → Bool
is_query_with other [] = true
is_query_with other (b ∷ []) = is_query_byte b || other b
is_query_with other (b ∷ c ∷ []) = (is_query_byte b || other b) && (is_query_byte c || other c)
is_query_with other (b ∷ c ∷ e ∷ rest) =
    if b == 37
    then is_digit c 16 && is_digit e 16 && is_query_with other rest
    else (is_query_byte b || other b) && is_query_with other (c ∷ e ∷ rest)

-- and no other byte
abbrev pub is_query : List ℕ → Bool
is_query = is_query_with (λ b. false)

-- the query percent-encode set of the URL Standard, section 1.3: C0 controls, what is above `~`, the space, `"`, `#`, `<` and `>`
abbrev pub is_in_query_set : ℕ → Bool
is_in_query_set b = not (is_between 33 126 b) || b == 34 || b == 35 || b == 60 || b == 62

-- "unwise" of RFC 2396, section 2.4.3, which RFC 3986 replaces: `[`, `\`, `]`, `^`, the backtick, `{`, `|`, `}`
abbrev pub is_unwise : ℕ → Bool
is_unwise b = is_bracket b || b == 92 || b == 94 || b == 96 || b == 123 || b == 124 || b == 125
