-- Tuples by their items.
use Rattle.std.proofs.Common.{ap, ◌∙◌, refl}
use Rattle.std.specs.Prelude.{◌≡◌, ℕ, Bool, true, ◌&&◌, List, Option, Some, option_map}
use Rattle.qs_spec.specs.Data as v
use Rattle.qs_spec.specs.Data.{Values, no_values, one_value, values_of}
use Rattle.qs_spec.specs.Plain.{are_few, are_plain, has_values, is_plain, is_plain_name}
use Rattle.qs_spec.specs.Same.{Same, SameValues}
use Rattle.serde_qs.specs.ComesBack.{ComesBack}
use Rattle.serde_qs.specs.Meaning.{both}
use Rattle.serde_qs.specs.internal.Booleans.{both_hold}
use Rattle.serde_qs.specs.Tuples.{ItemsComeBack, item_in, no_item_in, tuple_in, tuple_variant_in}

pub no_item_back : {A : Type 0} (is_form : Bool) (x : A) (es : Values) → true ≡ true → SameValues no_values es → no_item_in es ≡ Some tt
no_item_back is_form x _ h SameValues.values_end = refl

pub items_back : {A B V W : Type 0} (datum : A → v.Data) (meaning : v.Data → Option V) (value : A → V) → ComesBack datum meaning value
    → (written : B → List v.Data) (others : Values → Option W) (rest : B → W) → ItemsComeBack written others rest
    → (is_form : Bool) (a : A) (b : B) (es : Values) → are_plain is_form (one_value (datum a) (values_of (written b))) ≡ true → SameValues (one_value (datum a) (values_of (written b))) es → item_in meaning others es ≡ Some (value a, rest b)
items_back datum meaning value back written others rest more is_form a b _ h (SameValues.values_more {d} {e} {ds} {es} p ps) =
    let parts = both_hold (is_plain is_form (datum a)) (are_plain is_form (values_of (written b))) h in
    ap (λ r. both r (others es)) (back is_form a e parts.0 p)
    ∙ ap (λ r. option_map (λ y. (value a, y)) r) (more is_form b es parts.1 ps)

module _ {A V : Type 0} (written : A → List v.Data) (meaning : Values → Option V) (value : A → V) (back : ItemsComeBack written meaning value) (is_form : Bool) where
  pub tuple_back : (x : A) (e : v.Data) → is_plain is_form (v.tuple (values_of (written x))) ≡ true → Same (v.tuple (values_of (written x))) e → tuple_in meaning e ≡ Some (value x)
  tuple_back x _ h (Same.tuple {ds} {es} p) = let vs = values_of (written x) in back is_form x es (both_hold (are_few vs) (are_plain is_form vs) h).1 p

  pub tuple_variant_back : (n : List ℕ) (x : A) (e : v.Data) → is_plain is_form (v.tuple_variant n (values_of (written x))) ≡ true → Same (v.tuple_variant n (values_of (written x))) e → tuple_variant_in meaning e ≡ Some (value x)
  tuple_variant_back n x _ h (Same.tuple_variant {name = m} {ds} {es} p) =
      let vs = values_of (written x) in
      back is_form x es (both_hold (is_plain_name is_form n && has_values vs && are_few vs) (are_plain is_form vs) h).1 p
