-- The tables have `%` for the bytes that a mode escapes, and for the others what they are written as.
use Rattle.qs_tree.proofs.Common.{◌≡◌, ◌∙◌, ℕ, ◌<◌, ◌==◌, ◌||◌, true, false, get_or, refl, sym, ap, agree_below_at, swapped, is_escaped, eqb-true}
use Rattle.qs_tree.specs.declared.escape.search.encoded.TheConstants.{QUERY, FORM}

pub form_table : (b : ℕ) → b < 256 → (get_or FORM b 0 == 37) ≡ is_escaped true b
form_table b small = agree_below_at (λ b. get_or FORM b 0 == 37) (is_escaped true) 256 b refl small

pub query_table : (b : ℕ) → b < 256 → (get_or QUERY b 0 == 37) ≡ is_escaped false b
query_table b small = agree_below_at (λ b. get_or QUERY b 0 == 37) (is_escaped false) 256 b refl small

pub form_plain : (b : ℕ) → b < 256 → is_escaped true b ≡ false → get_or FORM b 0 ≡ swapped 32 43 b
form_plain b small is =
    let either = agree_below_at (λ b. is_escaped true b || (get_or FORM b 0 == swapped 32 43 b)) (λ b. true) 256 b refl small in
    eqb-true (get_or FORM b 0) (swapped 32 43 b) (ap (λ x. x || (get_or FORM b 0 == swapped 32 43 b)) (sym is) ∙ either)

pub query_plain : (b : ℕ) → b < 256 → is_escaped false b ≡ false → get_or QUERY b 0 ≡ swapped 32 43 b
query_plain b small is =
    let either = agree_below_at (λ b. is_escaped false b || (get_or QUERY b 0 == swapped 32 43 b)) (λ b. true) 256 b refl small in
    eqb-true (get_or QUERY b 0) (swapped 32 43 b) (ap (λ x. x || (get_or QUERY b 0 == swapped 32 43 b)) (sym is) ∙ either)
