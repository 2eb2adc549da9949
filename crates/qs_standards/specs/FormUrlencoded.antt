-- The parser of `application/x-www-form-urlencoded`: URL Standard, section 5.1.
-- Its UTF-8 decode without BOM (in step 3.5) is left out: names and values are bytes here.
use Rattle.std.specs.Prelude.{ℕ, Bool, true, false, ◌==◌, List, [], ◌∷◌, map, filter, if◌then◌else◌}
use Rattle.qs_standards.specs.PercentDecode.{percent_decoded}

-- step 2: a name and a value
pub record NameValue : Type 0 where
  pub name : List ℕ
  pub value : List ℕ

-- step 1: the byte sequences between `&`
abbrev pub before_first : ℕ → List (List ℕ) → List (List ℕ)
before_first b [] = (b ∷ []) ∷ []
before_first b (s ∷ sequences) = (b ∷ s) ∷ sequences

abbrev pub split : List ℕ → List (List ℕ)
split [] = [] ∷ []
split (b ∷ input) = if b == 38 then [] ∷ split input else before_first b (split input)

-- step 3.1: an empty sequence is skipped
abbrev pub isnt_empty : List ℕ → Bool
isnt_empty [] = false
isnt_empty (b ∷ bytes) = true

-- steps 3.2 and 3.3: the bytes before the first `=`, or all of them
abbrev pub name_bytes : List ℕ → List ℕ
name_bytes [] = []
name_bytes (b ∷ bytes) = if b == 61 then [] else b ∷ name_bytes bytes

-- and the bytes after it, or none
abbrev pub value_bytes : List ℕ → List ℕ
value_bytes [] = []
value_bytes (b ∷ bytes) = if b == 61 then bytes else value_bytes bytes

-- step 3.4: `+` is a space
abbrev pub plus_to_space : ℕ → ℕ
plus_to_space b = if b == 43 then 32 else b

-- steps 3.4 and 3.5, up to the UTF-8 decode
abbrev pub form_decoded : List ℕ → List ℕ
form_decoded bytes = percent_decoded (map plus_to_space bytes)

-- step 3.6: what is appended to the output
abbrev pub name_value : List ℕ → NameValue
name_value bytes = record { name = form_decoded (name_bytes bytes); value = form_decoded (value_bytes bytes) }

-- the names and values of an input, in order
abbrev pub form_parsed : List ℕ → List NameValue
form_parsed input = map name_value (filter isnt_empty (split input))
