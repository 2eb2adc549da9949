-- The data of the definitions that data of a program is.
use Rattle.std.specs.Prelude.{ℕ, List, map, string_bytes}
use Rattle.std.specs.declared.string.String.{String}
use Rattle.std.specs.declared.alloc.Global.{Global}
use Rattle.qs_spec.specs.Data as d
use Rattle.qs_data.specs.declared.data.data.Data.{Data, Data-F, fold-Data}

-- a name with what is under it
abbrev pub named : {A B : Type 0} → (A → B) → String Global × A → List ℕ × B
named view x = (string_bytes x.0, view x.1)

abbrev pub unchanged : d.Data → d.Data
unchanged x = x

-- one level of data, with what is inside already seen as data of the definitions
abbrev pub data_layer : Data-F d.Data → d.Data
data_layer Data-F.Unit = d.unit
data_layer Data-F.None = d.none
data_layer (Data-F.Some x) = d.some x.value
data_layer (Data-F.Bool b) = d.boolean b
data_layer (Data-F.Unsigned n) = d.unsigned n
data_layer (Data-F.Signed n) = d.signed n
data_layer (Data-F.Char c) = d.character c
data_layer (Data-F.Text text) = d.text (string_bytes text)
data_layer (Data-F.Bytes bytes) = d.bytes bytes.items
data_layer (Data-F.Seq xs) = d.sequence (d.values_of xs.items)
data_layer (Data-F.Tuple xs) = d.tuple (d.values_of xs.items)
data_layer (Data-F.Map ps) = d.mapping (d.pairs_of ps.items)
data_layer (Data-F.Struct ms) = d.struct (d.members_of (map (named unchanged) ms.items))
data_layer (Data-F.Newtype x) = d.newtype x.value
data_layer (Data-F.UnitVariant name) = d.unit_variant (string_bytes name)
data_layer (Data-F.NewtypeVariant name x) = d.newtype_variant (string_bytes name) x.value
data_layer (Data-F.TupleVariant name xs) = d.tuple_variant (string_bytes name) (d.values_of xs.items)
data_layer (Data-F.StructVariant name ms) = d.struct_variant (string_bytes name) (d.members_of (map (named unchanged) ms.items))

-- the data that a value is
abbrev pub data_of : Data → d.Data
data_of = fold-Data d.Data data_layer

-- lists of them, and the members of a struct
abbrev pub values_in : List Data → d.Values
values_in xs = d.values_of (map data_of xs)

abbrev pub members_in : List (String Global × Data) → d.Members
members_in ms = d.members_of (map (named data_of) ms)

-- a key with its value
abbrev pub pair_of : Data × Data → d.Data × d.Data
pair_of p = (data_of p.0, data_of p.1)

-- the pairs of a map
abbrev pub pairs_in : List (Data × Data) → d.Pairs
pairs_in ps = d.pairs_of (map pair_of ps)
