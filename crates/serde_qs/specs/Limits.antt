-- The limits that an input is checked against before it is parsed.
use Rattle.std.specs.Prelude.{◌≡◌, ℕ, ◌+◌, ◌<◌, ◌≤◌, List, [], ◌∷◌, ◌++◌, codes, decimal, Some, Result, Ok, Err, length, map, slice_get}
use Rattle.memchr.specs.Find.{is_byte, places}
use Rattle.serde_qs.specs.declared.limits.LimitError.{LimitError}
use Rattle.serde_qs.specs.declared.limits.LimitError.TheVariants.{TooLong, TooManyPairs}
use Rattle.serde_qs.specs.declared.limits.Limits.{Limits}

-- no limits: the largest numbers
abbrev pub lifted : Limits
lifted = record { max_length = 18446744073709551615; max_pairs = 18446744073709551615 }

-- where the pieces between `&` begin: the first at the start, and each other after an `&`; the empty input has none
abbrev pub starts : List ℕ → List ℕ
starts [] = []
starts (b ∷ bytes) = 0 ∷ map (λ at. at + 1) (places (is_byte 38) (b ∷ bytes))

-- whether the input is within the limits, and otherwise the limit that it exceeds: with its length, or with the start of the first piece
-- beyond the limit
abbrev pub Checks : Limits → List ℕ → Result (Unit {0}) LimitError → Type 0
Checks limits input (Ok _) = (length input ≤ limits.max_length) × (length (starts input) ≤ limits.max_pairs)
Checks limits input (Err (TooLong n)) = (n ≡ length input) × (limits.max_length < n)
Checks limits input (Err (TooManyPairs at)) = slice_get (starts input) limits.max_pairs ≡ Some at

-- the text of an error
abbrev pub limit_text : LimitError → List ℕ
limit_text (TooLong n) = codes "querystring too long: " ++ decimal n ++ codes " bytes"
limit_text (TooManyPairs at) = codes "too many pairs: the first beyond the limit begins at byte " ++ decimal at
