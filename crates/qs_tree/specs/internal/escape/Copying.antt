-- What a byte is copied as.
use Rattle.std.specs.Prelude.{ℕ, ◌==◌, if◌then◌else◌}

-- the byte with `to` in place of `from`
abbrev pub swapped : ℕ → ℕ → ℕ → ℕ
swapped from to b = if b == from then to else b
