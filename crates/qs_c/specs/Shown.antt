-- Data as JSON, as serde_json writes it: fields, maps and variants with a value are objects, and bytes are an array of numbers.
use Rattle.std.specs.Prelude.{ℕ, List, [], ◌∷◌, decimal}
use Rattle.std.specs.Fmt.{signed_decimal}
use Rattle.std.specs.Char.{encode_utf8}
use Rattle.qs_spec.specs.Entry.{boolean_text}
use Rattle.qs_spec.specs.Data as d
use Rattle.json.specs.Json.{Json, Items, Members, no_items, item, no_members, member}
use Rattle.json.specs.Json.Json.{null, boolean, number, string, array, object}
use Rattle.json.specs.Print.{print}
use Rattle.json.specs.Token.{Token}
use Rattle.json.specs.Tree.{json_tokens}

-- bytes as numbers
abbrev pub byte_items : List ℕ → Items
byte_items [] = no_items
byte_items (b ∷ bs) = item (number (decimal b)) (byte_items bs)

-- the text from which the key of a map is read; no other data is ever a key
abbrev pub key_of : d.Data → List ℕ
key_of (d.boolean b) = boolean_text b
key_of (d.unsigned n) = decimal n
key_of (d.signed n) = signed_decimal n
key_of (d.character c) = encode_utf8 c
key_of (d.text t) = t
key_of (d.unit_variant name) = name
key_of _ = []

-- an object with one member
abbrev pub alone : List ℕ → Json → Json
alone name j = object (member name j no_members)

-- data as JSON, and its parts as items and members
abbrev mutual
  pub json_of : d.Data → Json
  json_of d.unit = null
  json_of d.none = null
  json_of (d.some x) = json_of x
  json_of (d.boolean b) = boolean b
  json_of (d.unsigned n) = number (decimal n)
  json_of (d.signed n) = number (signed_decimal n)
  json_of (d.character c) = string (encode_utf8 c)
  json_of (d.text t) = string t
  json_of (d.bytes b) = array (byte_items b)
  json_of (d.sequence xs) = array (json_items xs)
  json_of (d.tuple xs) = array (json_items xs)
  json_of (d.mapping ps) = object (json_pairs ps)
  json_of (d.struct ms) = object (json_members ms)
  json_of (d.newtype x) = json_of x
  json_of (d.unit_variant name) = string name
  json_of (d.newtype_variant name x) = alone name (json_of x)
  json_of (d.tuple_variant name xs) = alone name (array (json_items xs))
  json_of (d.struct_variant name ms) = alone name (object (json_members ms))

  pub json_items : d.Values → Items
  json_items d.no_values = no_items
  json_items (d.one_value x xs) = item (json_of x) (json_items xs)

  pub json_pairs : d.Pairs → Members
  json_pairs d.no_pairs = no_members
  json_pairs (d.one_pair k x ps) = member (key_of k) (json_of x) (json_pairs ps)

  pub json_members : d.Members → Members
  json_members d.no_members = no_members
  json_members (d.one_member name x ms) = member name (json_of x) (json_members ms)

-- the tokens of an array, and of an object
abbrev pub array_tokens : Items → List Token
array_tokens js = json_tokens (array js)

abbrev pub object_tokens : Members → List Token
object_tokens ms = json_tokens (object ms)

-- data as JSON text, without blanks
abbrev pub json_text : d.Data → List ℕ
json_text x = print (json_tokens (json_of x))
