-- The events that serde sends for data, and for which data they have the text of its entries.
use Rattle.std.specs.Prelude.{◌≡◌, ⊤, ℕ, suc, ◌^◌, ◌<◌, Bool, true, false, List, ◌∷◌, Some, None}
use Rattle.qs_spec.specs.Data as d
use Rattle.qs_spec.specs.Data.{Data, Values, no_values, one_value, Pairs, no_pairs, one_pair, Members, no_members, one_member}
use Rattle.serde.specs.Event as e
use Rattle.serde.specs.Event.{Event}
use Rattle.serde.specs.declared.name.Case.TheVariants.{AsIs}

-- how many there are
abbrev pub values_count : Values → ℕ
values_count no_values = 0
values_count (one_value x xs) = suc (values_count xs)

abbrev pub pairs_count : Pairs → ℕ
pairs_count no_pairs = 0
pairs_count (one_pair k x ps) = suc (pairs_count ps)

-- the events of data, before others
abbrev mutual
  pub sends : Data → List Event → List Event
  sends d.unit rest = e.nothing ∷ rest
  sends d.none rest = e.nothing ∷ rest
  sends (d.some x) rest = sends x rest
  sends (d.boolean b) rest = e.boolean b ∷ rest
  sends (d.unsigned n) rest = e.unsigned n ∷ rest
  sends (d.signed z) rest = e.signed z ∷ rest
  sends (d.character c) rest = e.character c ∷ rest
  sends (d.text t) rest = e.text t ∷ rest
  sends (d.bytes b) rest = e.octets b ∷ rest
  sends (d.sequence xs) rest = e.seq_begins (Some (values_count xs)) ∷ sends_values xs (e.seq_ends ∷ rest)
  sends (d.tuple xs) rest = e.seq_begins (Some (values_count xs)) ∷ sends_values xs (e.seq_ends ∷ rest)
  sends (d.mapping ps) rest = e.map_begins (Some (pairs_count ps)) ∷ sends_pairs ps (e.map_ends ∷ rest)
  sends (d.struct ms) rest = e.map_begins None ∷ sends_members ms (e.map_ends ∷ rest)
  sends (d.newtype x) rest = sends x rest
  sends (d.unit_variant name) rest = e.unit_variant name AsIs ∷ rest
  sends (d.newtype_variant name x) rest = e.map_begins (Some 1) ∷ e.variant_key name AsIs ∷ sends x (e.map_ends ∷ rest)
  sends (d.tuple_variant name xs) rest =
      e.map_begins (Some 1) ∷ e.variant_key name AsIs ∷ e.seq_begins (Some (values_count xs)) ∷ sends_values xs (e.seq_ends ∷ e.map_ends ∷ rest)
  sends (d.struct_variant name ms) rest = e.map_begins (Some 1) ∷ e.variant_key name AsIs ∷ e.map_begins None ∷ sends_members ms (e.map_ends ∷ e.map_ends ∷ rest)

  pub sends_values : Values → List Event → List Event
  sends_values no_values rest = rest
  sends_values (one_value x xs) rest = sends x (sends_values xs rest)

  pub sends_pairs : Pairs → List Event → List Event
  sends_pairs no_pairs rest = rest
  sends_pairs (one_pair k x ps) rest = e.key_begins ∷ sends k (e.key_ends ∷ sends x (sends_pairs ps rest))

  pub sends_members : Members → List Event → List Event
  sends_members no_members rest = rest
  sends_members (one_member name x ms) rest = e.field_key name AsIs ∷ sends x (sends_members ms rest)

-- Data that serde's events can express, with no more items in a list than memory has bytes. A unit is sent as none, and what has no parts
-- as an empty list or an empty map. `inside` says that the data is part of other data: an empty map alone is written as nothing.
abbrev mutual
  pub AreSaid : Bool → Data → Type 0
  AreSaid inside d.unit = ⊥
  AreSaid inside (d.some x) = AreSaid inside x
  AreSaid inside (d.sequence xs) = (values_count xs < 2 ^ 64) × AreSaidValues xs
  AreSaid inside (d.tuple xs) = (values_count xs < 2 ^ 64) × AreSaidValues xs
  AreSaid inside (d.mapping no_pairs) = inside ≡ true
  AreSaid inside (d.mapping (one_pair k x ps)) = AreSaid true x × AreSaidPairs ps
  AreSaid inside (d.struct no_members) = inside ≡ false
  AreSaid inside (d.struct (one_member name x ms)) = AreSaid true x × AreSaidMembers ms
  AreSaid inside (d.newtype x) = AreSaid inside x
  AreSaid inside (d.newtype_variant name x) = AreSaid true x
  AreSaid inside (d.tuple_variant name no_values) = ⊥
  AreSaid inside (d.tuple_variant name (one_value x xs)) = (suc (values_count xs) < 2 ^ 64) × AreSaid true x × AreSaidValues xs
  AreSaid inside (d.struct_variant name no_members) = ⊥
  AreSaid inside (d.struct_variant name (one_member field x ms)) = AreSaid true x × AreSaidMembers ms
  AreSaid inside _ = ⊤

  pub AreSaidValues : Values → Type 0
  AreSaidValues no_values = ⊤
  AreSaidValues (one_value x xs) = AreSaid true x × AreSaidValues xs

  pub AreSaidPairs : Pairs → Type 0
  AreSaidPairs no_pairs = ⊤
  AreSaidPairs (one_pair k x ps) = AreSaid true x × AreSaidPairs ps

  pub AreSaidMembers : Members → Type 0
  AreSaidMembers no_members = ⊤
  AreSaidMembers (one_member name x ms) = AreSaid true x × AreSaidMembers ms
