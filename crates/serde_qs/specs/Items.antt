-- Lists of items in one text, with a delimiter between them.
use Rattle.std.specs.Prelude.{ℕ, ◌==◌, Bool, true, false, List, [], ◌∷◌, ◌++◌, Option, Some, None, map, codes, if◌then◌else◌, option_map, option_and_then}
use Rattle.std.specs.Char.{encode_utf8}
use Rattle.std.specs.List.{slice_split}
use Rattle.std.specs.Str.{bytes_eq, chars, encode_utf8_all}
use Rattle.qs_spec.specs.Data.{Data}
use Rattle.qs_spec.specs.Data.Data.{text}

-- the texts, each after the delimiter
abbrev pub each_after : List ℕ → List (List ℕ) → List ℕ
each_after delimiter [] = []
each_after delimiter (t ∷ ts) = delimiter ++ (t ++ each_after delimiter ts)

-- the texts, with the delimiter between them
abbrev pub joined : ℕ → List (List ℕ) → List ℕ
joined delimiter [] = []
joined delimiter (t ∷ ts) = t ++ each_after (encode_utf8 delimiter) ts

-- the pieces of a text between delimiters
unfoldable pub pieces : ℕ → List ℕ → List (List ℕ)
pieces delimiter t = map encode_utf8_all (slice_split (λ c. c == delimiter) (chars t))

-- the items that texts are parsed as, if each is one
abbrev pub items_in : {A : Type 0} → (List ℕ → Option A) → List (List ℕ) → Option (List A)
items_in m [] = Some []
items_in m (t ∷ ts) = option_and_then (λ x. option_map (λ xs. x ∷ xs) (items_in m ts)) (m t)

-- the list that a text is parsed as: the empty text as the empty list, and any other by its pieces
abbrev pub listed_in : {A : Type 0} → (List ℕ → Option A) → ℕ → List ℕ → Option (List A)
listed_in m delimiter [] = Some []
listed_in m delimiter (b ∷ bs) = items_in m (pieces delimiter (b ∷ bs))

-- the list that data means
abbrev pub list_in : {A : Type 0} → (List ℕ → Option A) → ℕ → Data → Option (List A)
list_in m delimiter (text t) = listed_in m delimiter t
list_in m delimiter _ = None

-- the boolean that a text is parsed as
abbrev pub boolean_item : List ℕ → Option Bool
boolean_item t = if bytes_eq t (codes "true") then Some true else (if bytes_eq t (codes "false") then Some false else None)
