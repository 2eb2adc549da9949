-- The first byte of a class, found by masks.
use Rattle.std.specs.Prelude.{◌≡◌, ℕ, ◌+◌, ◌<◌, ◌≤◌, Bool, true, false, not, ◌||◌, ◌==◌, List, map, slice_index, if◌then◌else◌}
use lib.Lanes.{chunk, mask_l}
use Rattle.std.specs.Int.{w64, trailing_zeros}
use Rattle.qs_spec.specs.Escape.{is_kept_in_form, is_kept_in_query}

-- the bytes that form encoding (true) or query encoding escapes
abbrev pub is_escaped : Bool → ℕ → Bool
is_escaped true b = not (is_kept_in_form b)
is_escaped false b = not (is_kept_in_query b || b == 32)

-- no byte from `at` up to `end` is in the class
abbrev pub NoneBetween : (ℕ → Bool) → List ℕ → ℕ → ℕ → Type 0
NoneBetween contains bytes at end = (k : ℕ) → at ≤ k → k < end → contains (slice_index bytes k) ≡ false

-- of the `n` bytes from `at` on, the first `run` are not in the class, and the next one is
abbrev pub IsFirstIn : (ℕ → Bool) → List ℕ → ℕ → ℕ → ℕ → Type 0
IsFirstIn contains bytes at n run =
    (run ≤ n) × NoneBetween contains bytes at (at + run) × (run < n → contains (slice_index bytes (at + run)) ≡ true)

-- a bit for each of the `n` bytes from `at` on, set if the byte is in the class
abbrev pub class_mask : (ℕ → Bool) → List ℕ → ℕ → ℕ → ℕ
class_mask contains bytes at n = mask_l (map contains (chunk at n bytes))

-- the index of the lowest set bit, or `n` if none is set
abbrev pub first_set : ℕ → ℕ → ℕ
first_set mask n = if mask == 0 then n else trailing_zeros w64 mask
