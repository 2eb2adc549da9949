-- The bytes that the searches look for.
use Rattle.std.specs.Prelude.{ℕ, Bool, true, false, not, ◌||◌, ◌==◌}
use Rattle.qs_spec.specs.Escape.{is_kept_in_form, is_kept_in_query}

-- `+` and `%`, with which a byte may be escaped
abbrev pub is_escape : ℕ → Bool
is_escape b = b == 43 || b == 37

-- `&`, the delimiter of pairs
abbrev pub is_ampersand : ℕ → Bool
is_ampersand b = b == 38

-- the bytes that form encoding (true) or query encoding changes
abbrev pub is_encoded : Bool → ℕ → Bool
is_encoded true b = not (is_kept_in_form b)
is_encoded false b = not (is_kept_in_query b)
