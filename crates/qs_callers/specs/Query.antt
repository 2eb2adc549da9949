-- The query that a querystring is read as, written out.
use Rattle.std.specs.Prelude.{ℕ, List, [], ◌∷◌, Option, codes, string_bytes, false}
use Rattle.qs_spec.specs.Data.{Data}
use Rattle.qs_spec.specs.Shape.{Shape, UnknownKeys, fields_of}
use Rattle.serde_qs.specs.Meaning.{text_in, unsigned_in}
use Rattle.serde_qs.specs.Records.{field_shape, member_in, nothing_in, struct_in}
use Rattle.qs_callers.specs.declared.query.Query.{Query}

-- the bytes of the name, the age, the bytes of the occupation
abbrev pub QueryValue : Type 0
QueryValue = List ℕ × (ℕ × (List ℕ × Unit {0}))

abbrev pub query_value : Query → QueryValue
query_value q = (string_bytes q.name, (q.age, (string_bytes q.occupation, tt)))

abbrev pub query_names : List (List ℕ)
query_names = codes "name" ∷ codes "age" ∷ codes "occupation" ∷ []

abbrev pub query_form : Shape
query_form = Shape.struct UnknownKeys.ignored (fields_of (field_shape Shape.text false (field_shape (Shape.unsigned 8) false (field_shape Shape.text false (λ _. []))) query_names))

abbrev pub query_in : Data → Option QueryValue
query_in d = struct_in (member_in text_in (member_in (unsigned_in 255) (member_in text_in (λ _ ms. nothing_in ms))) query_names) d
