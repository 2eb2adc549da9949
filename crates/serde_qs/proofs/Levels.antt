-- Structs, level by level, and members turned round.
use Rattle.std.proofs.Common.{◌≡◌, List, map, ap, rules, string_bytes, reverse}
use Rattle.std.proofs.lemmas.List.{reverse-reverse}
use Rattle.std.specs.declared.string.String.{String}
use Rattle.std.specs.declared.alloc.Global.{Global}
use Rattle.qs_spec.specs.Data as d
use Rattle.qs_data.proofs.lemmas.data.Levels.{data_of_struct, data_of_struct_variant}
use Rattle.qs_data.specs.data.Views.{data_of, named}
use Rattle.qs_data.specs.declared.data.data.Data as r
use Rattle.qs_data.specs.declared.data.data.Data.{Data}
use Rattle.serde_qs.specs.Records.{members_back}
use Rattle.serde_qs.specs.Tuples.{values_back}

pub data_of_text : (text : String Global) → data_of (r.Text text) ≡ d.text (string_bytes text)
data_of_text text = search (rules, r.the_lemmas)

pub back_reverse : (xs : List (String Global × Data)) → members_back (reverse xs) ≡ d.members_of (map (named data_of) xs)
back_reverse xs = ap (λ ys. d.members_of (map (named data_of) ys)) (reverse-reverse xs)

pub values_reverse : (xs : List Data) → values_back (reverse xs) ≡ d.values_of (map data_of xs)
values_reverse xs = ap (λ ys. d.values_of (map data_of ys)) (reverse-reverse xs)

pub ruleset levels = (data_of_struct, data_of_struct_variant, back_reverse, values_reverse)
