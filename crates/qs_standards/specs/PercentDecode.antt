-- Percent-decoding: URL Standard, section 1.3, "percent-decode a byte sequence".
use Rattle.std.specs.Prelude.{ℕ, ◌+◌, ◌*◌, ◌&&◌, ◌==◌, List, [], ◌∷◌, if◌then◌else◌}
use Rattle.std.specs.Char.{digit_value, is_digit}

-- For each byte (step 2): `%` before two hexadecimal digits is the byte that they write, and the digits are skipped (2.3). Any other
-- byte is unchanged (2.1), and so is `%` if two such digits don't follow (2.2). Decoding goes on at the byte after it.
abbrev pub percent_decoded : List ℕ → List ℕ
percent_decoded [] = []
percent_decoded (b ∷ []) = b ∷ []
percent_decoded (b ∷ c ∷ []) = b ∷ c ∷ []
percent_decoded (b ∷ c ∷ e ∷ rest) =
    if b == 37 && (is_digit c 16 && is_digit e 16)
    then (16 * digit_value c + digit_value e) ∷ percent_decoded rest
    else b ∷ percent_decoded (c ∷ e ∷ rest)
