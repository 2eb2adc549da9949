-- Data, level by level, where a level of the view has more to do than the search does.
use Rattle.qs_data.proofs.Common.{◌≡◌, map, ap, ◌∙◌, rules, string_bytes, Vec, String, Global, data_of, named, unchanged, members_in, pairs_in, Data}
use Rattle.std.proofs.lemmas.Simd.{map-map}
use Rattle.qs_spec.specs.Data as d
use Rattle.qs_data.specs.declared.data.data.Data as r

pub data_of_struct : (xs : Vec (String Global × Data) Global) → data_of (r.Struct xs) ≡ d.struct (members_in xs.items)
data_of_struct xs =
    let level : data_of (r.Struct xs) ≡ d.struct (d.members_of (map (named unchanged) (map (λ (x : String Global × Data). (x.0, data_of x.1)) xs.items))) = search (rules, r.the_lemmas) in
    level ∙ ap (λ ms. d.struct (d.members_of ms)) (map-map (named unchanged) (λ (x : String Global × Data). (x.0, data_of x.1)) xs.items)

pub data_of_struct_variant : (name : String Global) (xs : Vec (String Global × Data) Global) → data_of (r.StructVariant name xs) ≡ d.struct_variant (string_bytes name) (members_in xs.items)
data_of_struct_variant name xs =
    let level : data_of (r.StructVariant name xs) ≡ d.struct_variant (string_bytes name) (d.members_of (map (named unchanged) (map (λ (x : String Global × Data). (x.0, data_of x.1)) xs.items))) = search (rules, r.the_lemmas) in
    level ∙ ap (λ ms. d.struct_variant (string_bytes name) (d.members_of ms)) (map-map (named unchanged) (λ (x : String Global × Data). (x.0, data_of x.1)) xs.items)

pub data_of_map : (ps : Vec (Data × Data) Global) → data_of (r.Map ps) ≡ d.mapping (pairs_in ps.items)
data_of_map ps = search (rules, r.the_lemmas)

pub ruleset levels = (data_of_struct, data_of_struct_variant)
