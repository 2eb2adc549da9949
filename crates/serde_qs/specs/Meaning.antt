-- What data means as a value.
use Rattle.std.specs.Prelude.{ℕ, ◌-◌, ◌^◌, ℤ, pos, neg_ℤ, int_le, Bool, ◌&&◌, List, [], ◌∷◌, Option, Some, None, option_map, option_and_then, nat_le, if◌then◌else◌}
use Rattle.qs_spec.specs.Data.{Data, Values, no_values, one_value}
use Rattle.qs_spec.specs.Data.Data.{unit, none, some, boolean, unsigned, signed, character, text, sequence, newtype}

-- no value, a boolean
abbrev pub unit_in : Data → Option (Unit {0})
unit_in unit = Some tt
unit_in _ = None

abbrev pub boolean_in : Data → Option Bool
boolean_in (boolean b) = Some b
boolean_in _ = None

-- a number up to `most`
abbrev pub unsigned_in : ℕ → Data → Option ℕ
unsigned_in most (unsigned n) = if nat_le n most then Some n else None
unsigned_in most _ = None

-- a signed number from low to high
abbrev pub signed_between : ℤ → ℤ → Data → Option ℤ
signed_between low high (signed z) = if int_le low z && int_le z high then Some z else None
signed_between low high _ = None

-- z is one of the signed numbers of these bits
abbrev pub is_signed : ℕ → ℤ → Bool
is_signed bits z = int_le (neg_ℤ (pos (2 ^ (bits - 1)))) z && int_le z (pos (2 ^ (bits - 1) - 1))

-- a signed number of this many bits
abbrev pub signed_in : ℕ → Data → Option ℤ
signed_in bits x = signed_between (neg_ℤ (pos (2 ^ (bits - 1)))) (pos (2 ^ (bits - 1) - 1)) x

-- a character, a text
abbrev pub character_in : Data → Option ℕ
character_in (character c) = Some c
character_in _ = None

abbrev pub text_in : Data → Option (List ℕ)
text_in (text t) = Some t
text_in _ = None

-- an option, by its value
abbrev pub option_data : {A : Type 0} → (A → Data) → Option A → Data
option_data datum None = none
option_data datum (Some x) = some (datum x)

abbrev pub option_in : {A : Type 0} → (Data → Option A) → Data → Option (Option A)
option_in m none = Some None
option_in m (some d) = option_map Some (m d)
option_in m _ = None

-- a list, by its values
abbrev pub values_meant : {A : Type 0} → (Data → Option A) → Values → Option (List A)
values_meant m no_values = Some []
values_meant m (one_value d ds) = option_and_then (λ x. option_map (λ xs. x ∷ xs) (values_meant m ds)) (m d)

abbrev pub sequence_in : {A : Type 0} → (Data → Option A) → Data → Option (List A)
sequence_in m (sequence ds) = values_meant m ds
sequence_in m _ = None

-- a newtype, by its value
abbrev pub newtype_in : {A : Type 0} → (Data → Option A) → Data → Option A
newtype_in m (newtype d) = m d
newtype_in m _ = None

-- two values, if both are there
abbrev pub both : {A B : Type 0} → Option A → Option B → Option (A × B)
both a b = option_and_then (λ x. option_map (λ y. (x, y)) b) a
