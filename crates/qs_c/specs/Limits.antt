-- How large a querystring and its JSON may be.
use Rattle.std.specs.Prelude.{ℕ, ◌+◌, ◌<◌, ◌⊎◌, Bool, ◌&&◌, ◌==◌, nat_lt, cond, List, [], ◌∷◌, length}
use Rattle.qs_c.specs.declared.settings.Settings.{Settings}

-- `n` is more than `most`; a limit of 0 is none
abbrev pub is_beyond : (most n : ℕ) → Bool
is_beyond most n = nat_lt 0 most && nat_lt most n

abbrev pub IsBeyond : (most n : ℕ) → Type 0
IsBeyond most n = (0 < most) × (most < n)

-- the number of `&`s
abbrev pub ampersands : List ℕ → ℕ
ampersands [] = 0
ampersands (b ∷ bytes) = cond (b == 38) 1 0 + ampersands bytes

-- the number of pieces between them
abbrev pub pairs_in : List ℕ → ℕ
pairs_in bytes = ampersands bytes + 1

-- the querystring has more bytes, or more pairs, than the settings allow
abbrev pub IsTooLarge : Settings → List ℕ → Type 0
IsTooLarge s input = IsBeyond s.max_length (length input) ⊎ IsBeyond s.max_pairs (pairs_in input)
