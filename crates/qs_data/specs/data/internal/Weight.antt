-- How many values there are to drop.
use Rattle.std.specs.Prelude.{ℕ, ◌+◌, Bool, true, false, map}
use Rattle.std.specs.List.{sum, sum_by}
use Rattle.std.specs.declared.string.String.{String}
use Rattle.std.specs.declared.alloc.Global.{Global}
use Rattle.qs_data.specs.declared.data.data.Data.{Data, Data-F, fold-Data}
use Rattle.qs_data.specs.declared.data.discard.Parts.{Parts}
use Rattle.qs_data.specs.declared.data.discard.Parts.TheVariants.{One, Items, Pairs, Members}

-- data counts as one, and as much as the data in it
abbrev pub weight_layer : Data-F ℕ → ℕ
weight_layer (Data-F.Some part) = part.value + 1
weight_layer (Data-F.Newtype part) = part.value + 1
weight_layer (Data-F.NewtypeVariant name part) = part.value + 1
weight_layer (Data-F.Seq items) = sum items.items + 1
weight_layer (Data-F.Tuple items) = sum items.items + 1
weight_layer (Data-F.TupleVariant name items) = sum items.items + 1
weight_layer (Data-F.Map pairs) = sum (map (λ p. p.0 + p.1) pairs.items) + 1
weight_layer (Data-F.Struct members) = sum (map (λ m. m.1) members.items) + 1
weight_layer (Data-F.StructVariant name members) = sum (map (λ m. m.1) members.items) + 1
weight_layer _ = 1

-- how many values there are in data, with itself
abbrev pub weight : Data → ℕ
weight = fold-Data ℕ weight_layer

abbrev pub is_leaf_layer : Data-F Bool → Bool
is_leaf_layer (Data-F.Some part) = false
is_leaf_layer (Data-F.Newtype part) = false
is_leaf_layer (Data-F.NewtypeVariant name part) = false
is_leaf_layer (Data-F.Seq items) = false
is_leaf_layer (Data-F.Tuple items) = false
is_leaf_layer (Data-F.TupleVariant name items) = false
is_leaf_layer (Data-F.Map pairs) = false
is_leaf_layer (Data-F.Struct members) = false
is_leaf_layer (Data-F.StructVariant name members) = false
is_leaf_layer _ = true

-- the data is of a kind that holds no data
abbrev pub is_leaf : Data → Bool
is_leaf = fold-Data Bool is_leaf_layer

abbrev pub pair_weight : Data × Data → ℕ
pair_weight p = weight p.0 + weight p.1

abbrev pub member_weight : String Global × Data → ℕ
member_weight m = weight m.1

-- how many values there are in parts
abbrev pub parts_weight : Parts → ℕ
parts_weight (One part) = weight part.value
parts_weight (Items items) = sum_by weight items.items
parts_weight (Pairs pairs) = sum_by pair_weight pairs.items
parts_weight (Members members) = sum_by member_weight members.items
