-- Which booleans, numbers, characters and keys texts are parsed as.
use Rattle.std.specs.Prelude.{ℕ, ◌-◌, ◌^◌, ℤ, pos, neg_ℤ, Bool, true, false, ◌&&◌, ◌==◌, nat_le, List, [], ◌∷◌, codes, Option, Some, None, option_map, if◌then◌else◌}
use Rattle.std.specs.List.{list_all, list_any}
use Rattle.std.specs.Str.{bytes_eq, is_utf8, chars}
use Rattle.qs_spec.specs.Escape.{is_between}
use Rattle.qs_spec.specs.Segment.{number}
use Rattle.qs_spec.specs.Shape.{KeyShape}
use Rattle.qs_spec.specs.Data.{Data}

-- one or more ASCII digits
abbrev pub is_numeral : List ℕ → Bool
is_numeral [] = false
is_numeral (b ∷ digits) = list_all (is_between 48 57) (b ∷ digits)

-- a zero, and bytes after it
abbrev pub has_leading_zero : List ℕ → Bool
has_leading_zero [] = false
has_leading_zero (b ∷ []) = false
has_leading_zero (b ∷ c ∷ s) = b == 48

-- the number of a numeral of at most `most`; leading zeros are allowed
abbrev pub numeral_up_to : ℕ → List ℕ → Option ℕ
numeral_up_to most digits = if is_numeral digits && nat_le (number digits) most then Some (number digits) else None

-- an optional `+` and a numeral below 2 ^ bits
abbrev pub unsigned_number : ℕ → List ℕ → Option ℕ
unsigned_number bits [] = None
unsigned_number bits (b ∷ digits) = numeral_up_to (2 ^ bits - 1) (if b == 43 then digits else b ∷ digits)

-- an optional `+` or `-` and a numeral, from -2 ^ (bits - 1) up to 2 ^ (bits - 1) - 1
abbrev pub signed_number : ℕ → List ℕ → Option ℤ
signed_number bits [] = None
signed_number bits (b ∷ digits) =
    if b == 45 then option_map (λ n. neg_ℤ (pos n)) (numeral_up_to (2 ^ (bits - 1)) digits)
    else option_map pos (numeral_up_to (2 ^ (bits - 1) - 1) (if b == 43 then digits else b ∷ digits))

-- `true` or `false`
abbrev pub boolean_data : List ℕ → Option Data
boolean_data t = if bytes_eq t (codes "true") then Some (Data.boolean true) else (if bytes_eq t (codes "false") then Some (Data.boolean false) else None)

-- the data of an unsigned number
abbrev pub unsigned_data : ℕ → List ℕ → Option Data
unsigned_data bits t = option_map Data.unsigned (unsigned_number bits t)

-- the data of a signed number
abbrev pub signed_data : ℕ → List ℕ → Option Data
signed_data bits t = option_map Data.signed (signed_number bits t)

-- exactly one character
abbrev pub only_character : List ℕ → Option Data
only_character [] = None
only_character (c ∷ []) = Some (Data.character c)
only_character (c ∷ d ∷ cs) = None

-- a UTF-8 text of exactly one character
abbrev pub character_data : List ℕ → Option Data
character_data t = if is_utf8 t then only_character (chars t) else None

-- a UTF-8 text
abbrev pub text_data : List ℕ → Option Data
text_data t = if is_utf8 t then Some (Data.text t) else None

-- one of the names
abbrev pub name_data : List (List ℕ) → List ℕ → Option Data
name_data names t = if list_any (bytes_eq t) names then Some (Data.unit_variant t) else None

-- the data that the text of a map's key is parsed as
abbrev pub key_data : KeyShape → List ℕ → Option Data
key_data KeyShape.boolean t = boolean_data t
key_data (KeyShape.unsigned bits) t = unsigned_data bits t
key_data (KeyShape.signed bits) t = signed_data bits t
key_data KeyShape.character t = character_data t
key_data KeyShape.text t = text_data t
key_data (KeyShape.variants names) t = name_data names t
