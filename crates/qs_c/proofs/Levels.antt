-- JSON values and lists of data, level by level.
use Rattle.std.proofs.Common.{◌≡◌, ℕ, List, [], ◌∷◌, map, refl, ap, ◌∙◌, rules, Vec}
use Rattle.std.specs.Borrow.{Bor}
use Rattle.std.specs.declared.alloc.Global.{Global}
use Rattle.json.specs.Value.{items_view, members_view}
use Rattle.json.specs.declared.value.Value.{Value, Array, Object}
use Rattle.json.proofs.Trees.{view-Array, view-Object}
use Rattle.qs_spec.specs.Data as d
use Rattle.qs_data.specs.data.Views.{data_of}
use Rattle.qs_data.specs.declared.data.data.Data as r
use Rattle.qs_data.specs.declared.data.data.Data.{Data}
use Rattle.qs_c.specs.Taken.{data_from, values_from, pairs_from, item_data, member_data}

values_of_items : (vs : List (Value Global)) → values_from (items_view vs) ≡ d.values_of (map item_data vs)
values_of_items [] = refl
values_of_items (v ∷ vs) = ap (d.one_value (item_data v)) (values_of_items vs)

pairs_of_members : (ms : List (Bor (List ℕ) × Value Global)) → pairs_from (members_view ms) ≡ d.pairs_of (map member_data ms)
pairs_of_members [] = refl
pairs_of_members (m ∷ ms) = ap (d.one_pair (d.text m.0.now) (item_data m.1)) (pairs_of_members ms)

pub data_of_array : (vs : Vec (Value Global) Global) → item_data (Array vs) ≡ d.sequence (d.values_of (map item_data vs.items))
data_of_array vs = ap data_from (view-Array vs) ∙ ap d.sequence (values_of_items vs.items)

pub data_of_object : (ms : Vec (Bor (List ℕ) × Value Global) Global) → item_data (Object ms) ≡ d.mapping (d.pairs_of (map member_data ms.items))
data_of_object ms = ap data_from (view-Object ms) ∙ ap d.mapping (pairs_of_members ms.items)

pub data_of_list : (xs : Vec Data Global) → data_of (r.Seq xs) ≡ d.sequence (d.values_of (map data_of xs.items))
data_of_list xs = search (rules, r.the_lemmas)
