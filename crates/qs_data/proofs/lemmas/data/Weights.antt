-- How many data there are to drop, level by level.
use Rattle.qs_data.proofs.Common.{◌≡◌, ℕ, ◌+◌, rules, Vec, String, Global, sum_by, Data, weight, pair_weight, member_weight}
use Rattle.std.proofs.lemmas.List.Sums.{sum-map}
use Rattle.std.proofs.lemmas.Simd.{map-map}
use Rattle.qs_data.specs.declared.data.data.Data as r

pub weight_of_seq : (xs : Vec Data Global) → weight (r.Seq xs) ≡ sum_by weight xs.items + 1
weight_of_seq xs = rw (← sum-map weight xs.items) (search (rules, r.the_lemmas))

pub weight_of_tuple : (xs : Vec Data Global) → weight (r.Tuple xs) ≡ sum_by weight xs.items + 1
weight_of_tuple xs = rw (← sum-map weight xs.items) (search (rules, r.the_lemmas))

pub weight_of_tuple_variant : (name : String Global) (xs : Vec Data Global) → weight (r.TupleVariant name xs) ≡ sum_by weight xs.items + 1
weight_of_tuple_variant name xs = rw (← sum-map weight xs.items) (search (rules, r.the_lemmas))

pub weight_of_map : (ps : Vec (Data × Data) Global) → weight (r.Map ps) ≡ sum_by pair_weight ps.items + 1
weight_of_map ps = rw (← sum-map pair_weight ps.items, ← map-map (λ (p : ℕ × ℕ). p.0 + p.1) (λ (p : Data × Data). (weight p.0, weight p.1)) ps.items) (search (rules, r.the_lemmas))

pub weight_of_struct : (ms : Vec (String Global × Data) Global) → weight (r.Struct ms) ≡ sum_by member_weight ms.items + 1
weight_of_struct ms = rw (← sum-map member_weight ms.items, ← map-map (λ (m : String Global × ℕ). m.1) (λ (m : String Global × Data). (m.0, weight m.1)) ms.items) (search (rules, r.the_lemmas))

pub weight_of_struct_variant : (name : String Global) (ms : Vec (String Global × Data) Global) → weight (r.StructVariant name ms) ≡ sum_by member_weight ms.items + 1
weight_of_struct_variant name ms = rw (← sum-map member_weight ms.items, ← map-map (λ (m : String Global × ℕ). m.1) (λ (m : String Global × Data). (m.0, weight m.1)) ms.items) (search (rules, r.the_lemmas))

pub ruleset weights = (weight_of_seq, weight_of_tuple, weight_of_tuple_variant, weight_of_map, weight_of_struct, weight_of_struct_variant)
