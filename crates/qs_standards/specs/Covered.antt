-- When a broken escape makes a difference. Here the bytes after its `%` are unchanged (Escape); the URL Standard decodes them.
use Rattle.std.specs.Prelude.{ℕ, Bool, false, ◌&&◌, ◌||◌, ◌==◌, List, [], ◌∷◌, if◌then◌else◌}
use Rattle.std.specs.Char.{is_digit}

-- the bytes begin with two hexadecimal digits
abbrev pub begins_digits : List ℕ → Bool
begins_digits (c ∷ e ∷ rest) = is_digit c 16 && is_digit e 16
begins_digits _ = false

-- the bytes begin with `+` or a whole escape
abbrev pub begins_encoded : List ℕ → Bool
begins_encoded [] = false
begins_encoded (b ∷ rest) = b == 43 || (b == 37 && begins_digits rest)

-- The last byte that a broken escape keeps is `+`, or the `%` of a whole escape; by the cases of `decoded`.
abbrev pub covers_encoded : List ℕ → Bool
covers_encoded [] = false
covers_encoded (b ∷ []) = false
covers_encoded (b ∷ c ∷ []) = b == 37 && c == 43
covers_encoded (b ∷ c ∷ e ∷ rest) =
    if b == 37
    then (if is_digit c 16
    then (if is_digit e 16 then covers_encoded rest else begins_encoded (e ∷ rest) || covers_encoded rest)
    else begins_encoded (c ∷ e ∷ rest) || covers_encoded (e ∷ rest))
    else covers_encoded (c ∷ e ∷ rest)
