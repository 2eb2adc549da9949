-- One more pair of a map that is made.
use Rattle.std.proofs.Common.{◌≡◌, ℕ, Bool, true, false, List, [], Option, Some, refl, sym, ap, ◌∙◌, string_bytes}
use Rattle.std.specs.Prelude.{option_map, cond}
use Rattle.std.specs.Str.{bytes_eq}
use Rattle.std.specs.Ordering.{nat_cmp}
use Rattle.std.specs.Cmp.Lexicographic.{slice_cmp}
use Rattle.std.specs.String.{string_cmp}
use Rattle.std.specs.BTreeMap.{BTreeMap, UpdatesBy, get_by_text, is_at}
use Rattle.std.specs.Map.{lookup}
use Rattle.std.specs.declared.string.String.{String}
use Rattle.std.specs.declared.alloc.Global.{Global}
use Rattle.std.proofs.lemmas.Map.Text.{btree_map_updates_text}
use mathlib.Core.Path.{fun_ext}
use Rattle.qs_spec.specs.Data as d
use Rattle.qs_spec.specs.Data.{Data}
use Rattle.serde_qs.specs.Maps.{values_by_text, with_value, pair_onto, nowhere}

option_of_cond : {A V : Type 0} (value : A → V) (b : Bool) (v : A) (r : Option A) → option_map value (cond b (Some v) r) ≡ cond b (Some (value v)) (option_map value r)
option_of_cond value true v r = refl
option_of_cond value false v r = refl

pub values_put : {A V : Type 0} (value : A → V) (old new : BTreeMap (String Global) A) (k : List ℕ) (v : A) → UpdatesBy string_cmp (λ q. slice_cmp nat_cmp k (string_bytes q)) old new (Some v)
    → values_by_text value new ≡ with_value k (value v) (values_by_text value old)
values_put value old new k v updates =
    fun_ext (λ t. ap (option_map value) (btree_map_updates_text k old new (Some v) updates t) ∙ option_of_cond value (bytes_eq k t) v (get_by_text old t))

pub pair_put : {A V : Type 0} (m : Data → Option V) (value : A → V) (old new : BTreeMap (String Global) A) (k : List ℕ) (v : A) (x : Data)
    → m x ≡ Some (value v) → UpdatesBy string_cmp (λ q. slice_cmp nat_cmp k (string_bytes q)) old new (Some v)
    → pair_onto m (values_by_text value old) (d.text k) x ≡ Some (values_by_text value new)
pair_put m value old new k v x means updates =
    ap (option_map (λ w. with_value k w (values_by_text value old))) means ∙ ap Some (sym (values_put value old new k v updates))

pub values_none : {A V : Type 0} (value : A → V) (m : BTreeMap (String Global) A) → m.entries ≡ [] → nowhere ≡ values_by_text value m
values_none value m e = fun_ext (λ t. ap (λ es. option_map value (lookup (is_at (λ k. slice_cmp nat_cmp t (string_bytes k))) es)) (sym e))

pub ruleset empty = (values_none)
