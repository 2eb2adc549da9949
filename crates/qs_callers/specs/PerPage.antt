-- How many results a page may have.
use Rattle.std.specs.Prelude.{◌≡◌, ℕ, Bool, true, ◌&&◌, nat_le, if◌then◌else◌, Option, Some, None}
use Rattle.std.proofs.Common.{ap}
use Rattle.qs_spec.specs.Data as d
use Rattle.qs_spec.specs.Data.{Data}
use Rattle.qs_spec.specs.Same.{Same}

-- from 1 to 100
abbrev pub is_allowed_count : ℕ → Bool
is_allowed_count n = nat_le 1 n && nat_le n 100

-- such a number is meant by itself
abbrev pub per_page_in : Data → Option ℕ
per_page_in (d.unsigned n) = if is_allowed_count n then Some n else None
per_page_in _ = None

pub per_page_back : (n : ℕ) (e : Data) → is_allowed_count n ≡ true → Same (d.unsigned n) e → per_page_in e ≡ Some n
per_page_back n _ allowed Same.unsigned = ap (λ b. if b then Some n else None) allowed
