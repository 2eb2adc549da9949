-- Entries: a path and a value for each part of data that is written.
use Rattle.std.specs.Prelude.{ℕ, ◌+◌, Bool, true, false, cond, nat_lt, List, [], ◌∷◌, ◌++◌, length, codes, decimal, Option, Some, None}
use Rattle.std.specs.Fmt.{signed_decimal}
use Rattle.std.specs.Char.{encode_utf8}
use Rattle.qs_spec.specs.Config.{Config, ArrayFormat, element_segment}
use Rattle.qs_spec.specs.Data.{Data, Values, no_values, one_value, Pairs, no_pairs, one_pair, Members, no_members, one_member}

-- the segments that lead to a value, as bytes
abbrev pub Path : Type 0
Path = List (List ℕ)

-- a path, and the bytes after `=` if there is a `=`
pub record Entry : Type 0 where
  pub path : Path
  pub value : Option (List ℕ)

-- a path is longer than the limit allows, or a map's key is no scalar
pub data EntryError : Type 0 where
  too_deep : EntryError
  bad_key : EntryError

-- the entries, and the first error if there is one; in this case only the entries before the error
pub record Output : Type 0 where
  pub entries : List Entry
  pub error : Option EntryError

-- no entry, an error, and one entry
abbrev pub nothing : Output
nothing = record { entries = []; error = None }

abbrev pub failure : EntryError → Output
failure r = record { entries = []; error = Some r }

abbrev pub one : Path → Option (List ℕ) → Output
one path value = record { entries = record { path = path; value = value } ∷ []; error = None }

-- entries and then an output, unless there is an error before it
abbrev pub follow : List Entry → Option EntryError → Output → Output
follow es None o = record { entries = es ++ o.entries; error = o.error }
follow es (Some r) o = record { entries = es; error = Some r }

-- one output and then another, unless the first one has an error
abbrev pub and_then : Output → Output → Output
and_then a b = follow a.entries a.error b

-- a part under one more segment; a path with more segments than the limit isn't extended
unfoldable pub deeper : ℕ → Path → List ℕ → (Path → Output) → Output
deeper limit path segment part = cond (nat_lt limit (length path)) (failure too_deep) (part (path ++ segment ∷ []))

-- a part under one more segment, if there is one
abbrev pub maybe_deeper : ℕ → Path → Option (List ℕ) → (Path → Output) → Output
maybe_deeper limit path None part = part path
maybe_deeper limit path (Some segment) part = deeper limit path segment part

-- the text of a boolean
abbrev pub boolean_text : Bool → List ℕ
boolean_text true = codes "true"
boolean_text false = codes "false"

-- the text of a map's key, if it is a scalar other than unit and none
abbrev pub key_text : Data → Option (List ℕ)
key_text (Data.boolean b) = Some (boolean_text b)
key_text (Data.unsigned n) = Some (decimal n)
key_text (Data.signed n) = Some (signed_decimal n)
key_text (Data.character c) = Some (encode_utf8 c)
key_text (Data.text t) = Some t
key_text (Data.bytes b) = Some b
key_text (Data.unit_variant name) = Some name
key_text _ = None

-- a pair of a map: its key is tested first
abbrev pub under_key : ℕ → Path → Option (List ℕ) → (Path → Output) → Output
under_key limit path None part = failure bad_key
under_key limit path (Some key) part = deeper limit path key part

-- the entries of data at a path
unfoldable mutual
  pub entries_at : ℕ → ArrayFormat → Data → Path → Output
  entries_at limit format Data.unit path = one path (Some [])
  entries_at limit format Data.none path = one path None
  entries_at limit format (Data.some d) path = entries_at limit format d path
  entries_at limit format (Data.boolean b) path = one path (Some (boolean_text b))
  entries_at limit format (Data.unsigned n) path = one path (Some (decimal n))
  entries_at limit format (Data.signed n) path = one path (Some (signed_decimal n))
  entries_at limit format (Data.character c) path = one path (Some (encode_utf8 c))
  entries_at limit format (Data.text t) path = one path (Some t)
  entries_at limit format (Data.bytes b) path = one path (Some b)
  entries_at limit format (Data.sequence no_values) path = one path (Some [])
  entries_at limit format (Data.sequence (one_value d ds)) path = elements_from limit format 0 (one_value d ds) path
  entries_at limit format (Data.tuple no_values) path = one path (Some [])
  entries_at limit format (Data.tuple (one_value d ds)) path = elements_from limit format 0 (one_value d ds) path
  entries_at limit format (Data.mapping no_pairs) path = one path (Some [])
  entries_at limit format (Data.mapping (one_pair k d ps)) path = pair_entries limit format (one_pair k d ps) path
  entries_at limit format (Data.struct ms) path = member_entries limit format ms path
  entries_at limit format (Data.newtype d) path = entries_at limit format d path
  entries_at limit format (Data.unit_variant name) path = one path (Some name)
  entries_at limit format (Data.newtype_variant name d) path = deeper limit path name (entries_at limit format d)
  entries_at limit format (Data.tuple_variant name ds) path = deeper limit path name (elements_from limit format 0 ds)
  entries_at limit format (Data.struct_variant name ms) path = deeper limit path name (member_entries limit format ms)

  -- the elements, of which the first has index i
  pub elements_from : ℕ → ArrayFormat → ℕ → Values → Path → Output
  elements_from limit format i no_values path = nothing
  elements_from limit format i (one_value d ds) path =
      and_then (maybe_deeper limit path (element_segment format i) (entries_at limit format d)) (elements_from limit format (i + 1) ds path)

  pub pair_entries : ℕ → ArrayFormat → Pairs → Path → Output
  pair_entries limit format no_pairs path = nothing
  pair_entries limit format (one_pair k d ps) path =
      and_then (under_key limit path (key_text k) (entries_at limit format d)) (pair_entries limit format ps path)

  pub member_entries : ℕ → ArrayFormat → Members → Path → Output
  member_entries limit format no_members path = nothing
  member_entries limit format (one_member name d ms) path =
      and_then (deeper limit path name (entries_at limit format d)) (member_entries limit format ms path)

-- the entries of data under a configuration
abbrev pub entries : Config → Data → Output
entries config d = entries_at config.max_depth config.array_format d []
