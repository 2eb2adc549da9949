-- The index that a raw segment may be.
use Rattle.std.specs.Prelude.{ℕ, ◌+◌, ◌-◌, ◌*◌, ◌&&◌, nat_le, List, [], ◌∷◌, Option, Some, None, if◌then◌else◌}
use Rattle.qs_spec.specs.Escape.{is_between}
use Rattle.qs_spec.specs.Segment.{is_index, number}

-- the value of the bytes, if they are an index
abbrev pub index_of : List ℕ → Option ℕ
index_of raw = if is_index raw then Some (number raw) else None

-- the same from left to right, after digits with the value n
abbrev pub index_from : ℕ → List ℕ → Option ℕ
index_from n [] = Some n
index_from n (b ∷ raw) = if is_between 48 57 b && nat_le (10 * n + (b - 48)) 4294967295 then index_from (10 * n + (b - 48)) raw else None
