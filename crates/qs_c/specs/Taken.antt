-- JSON as data: null is none, a number is its text, and an object is a map with strings as keys.
use Rattle.std.specs.Prelude.{◌≡◌, ℕ, List, Some}
use Rattle.std.specs.Borrow.{Bor}
use Rattle.json.specs.Json as j
use Rattle.json.specs.Value.{value_view}
use Rattle.json.specs.declared.value.Value.{Value}
use Rattle.std.specs.declared.alloc.Global.{Global}
use Rattle.qs_spec.specs.Data as d

abbrev mutual
  pub data_from : j.Json → d.Data
  data_from j.null = d.none
  data_from (j.boolean b) = d.boolean b
  data_from (j.number s) = d.text s
  data_from (j.string s) = d.text s
  data_from (j.array xs) = d.sequence (values_from xs)
  data_from (j.object ms) = d.mapping (pairs_from ms)

  pub values_from : j.Items → d.Values
  values_from j.no_items = d.no_values
  values_from (j.item x xs) = d.one_value (data_from x) (values_from xs)

  pub pairs_from : j.Members → d.Pairs
  pairs_from j.no_members = d.no_pairs
  pairs_from (j.member name x ms) = d.one_pair (d.text name) (data_from x) (pairs_from ms)

-- the text is JSON, and the data is what it holds
abbrev pub IsJsonOf : List ℕ → d.Data → Type 0
IsJsonOf text x = (json : j.Json) × (j.document text ≡ Some json) × (x ≡ data_from json)

-- a `Value` as data, and a member of an object as a pair
abbrev pub item_data : Value Global → d.Data
item_data v = data_from (value_view v)

abbrev pub member_data : Bor (List ℕ) × Value Global → d.Data × d.Data
member_data m = (d.text m.0.now, item_data m.1)
