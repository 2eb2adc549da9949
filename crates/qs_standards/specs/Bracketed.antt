-- Written entries as the URL Standard's parser reads them: the name is the path with its brackets, as in `a[b]`.
use Rattle.std.specs.Prelude.{ℕ, ◌<◌, List, [], ◌∷◌, ◌++◌, map, Option, Some, None, ⊤}
use Rattle.std.specs.List.{AllByRecursion}
use Rattle.qs_spec.specs.Data.{Data, members_of, pairs_of}
use Rattle.qs_spec.specs.Entry.{Path, Entry}
use Rattle.qs_standards.specs.FormUrlencoded.{NameValue}

-- a path as one name
abbrev pub in_brackets : Path → List ℕ
in_brackets [] = []
in_brackets (s ∷ path) = 91 ∷ s ++ 93 ∷ in_brackets path

abbrev pub bracketed : Path → List ℕ
bracketed [] = []
bracketed (s ∷ path) = s ++ in_brackets path

-- a value, empty if there is none
abbrev pub value_or_empty : Option (List ℕ) → List ℕ
value_or_empty None = []
value_or_empty (Some bytes) = bytes

-- an entry's name and value
abbrev pub entry_named : Entry → NameValue
entry_named e = record { name = bracketed e.path; value = value_or_empty e.value }

-- a list, a path and a value hold only bytes
abbrev pub AreBytes : List ℕ → Type 0
AreBytes bytes = AllByRecursion (λ b. b < 256) bytes

abbrev pub IsOfBytes : Entry → Type 0
IsOfBytes e = AllByRecursion AreBytes e.path × AreBytes (value_or_empty e.value)

abbrev pub AreNamesOfBytes : List NameValue → Type 0
AreNamesOfBytes ns = AllByRecursion (λ n. AreBytes n.name × AreBytes n.value) ns

-- An entry that writes something: it has a key, and it isn't the empty key without a value.
abbrev pub WritesAny : Path → Option (List ℕ) → Type 0
WritesAny [] value = ⊥
WritesAny ([] ∷ []) None = ⊥
WritesAny (s ∷ path) value = ⊤

abbrev pub Writes : Entry → Type 0
Writes e = WritesAny e.path e.value

-- flat data: a struct or a map of texts under these names
abbrev pub text_struct : List NameValue → Data
text_struct ns = Data.struct (members_of (map (λ n. (n.name, Data.text n.value)) ns))

abbrev pub text_map : List NameValue → Data
text_map ns = Data.mapping (pairs_of (map (λ n. (Data.text n.name, Data.text n.value)) ns))
