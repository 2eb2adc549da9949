-- One of some names is equal to another: the other way round too.
use Rattle.qs_data.proofs.Common.{◌≡◌, ℕ, List, [], ◌∷◌, Bool, true, false, ◌||◌, refl, sym, ap, ap₂, ◌∙◌, list_any, bytes_eq}
use Rattle.qs_spec.proofs.VariantNames.{bytes_same, bytes_equal}

turned : (s t : List ℕ) → bytes_eq s t ≡ bytes_eq t s
turned s t = by (bytes_eq s t) (bytes_eq t s) refl refl
  where
    by : (a b : Bool) → bytes_eq s t ≡ a → bytes_eq t s ≡ b → bytes_eq s t ≡ bytes_eq t s
    by true b e f = e ∙ sym (ap (bytes_eq t) (bytes_equal s t e) ∙ bytes_same t)
    by false true e f = ap (bytes_eq s) (bytes_equal t s f) ∙ bytes_same s ∙ sym f
    by false false e f = e ∙ sym f

pub any_turned : (name : List ℕ) (names : List (List ℕ)) → list_any (λ n. bytes_eq n name) names ≡ list_any (bytes_eq name) names
any_turned name [] = refl
any_turned name (n ∷ names) = ap₂ (λ a b. a || b) (turned n name) (any_turned name names)
