-- The range of the pair in which parsing stopped.
use Rattle.std.specs.Prelude.{◌≡◌, ◌≢◌, ℕ, ◌+◌, ◌-◌, ◌<◌, ◌≤◌, Bool, min, take, List, [], ◌∷◌, length, slice_index, if◌then◌else◌}
use Rattle.std.specs.List.{slice_range}
use Rattle.qs_spec.specs.Config.{Config}
use Rattle.qs_explain.specs.declared.pair_range.PairRange.{PairRange}
use Rattle.qs_explain.specs.declared.state.State.{State}
use Rattle.qs_explain.specs.declared.state.State.TheVariants.{Root}
use Rattle.qs_explain.specs.States.{is_value, kind_after, next_state, pair_start}

-- there is no such byte from one position up to another
abbrev pub HoldsNo : ℕ → List ℕ → ℕ → ℕ → Type 0
HoldsNo byte input from to = (k : ℕ) → from ≤ k → k < to → slice_index input k ≢ byte

-- the first such byte between two positions, or the second position if there is none
pub record IsFirst (byte : ℕ) (input : List ℕ) (from to at : ℕ) : Type 0 where
  pub after : from ≤ at
  pub within : at ≤ to
  pub none : HoldsNo byte input from at
  pub stands : at < to → slice_index input at ≡ byte

-- the index of the last byte that was parsed, or the end of the input
abbrev pub last_parsed : List ℕ → ℕ → ℕ
last_parsed input position = min (position - 1) (length input)

-- The length of a pair's key: up to the first `=` outside brackets, after which the value begins, or else the whole pair. n bytes precede
-- the rest; the last two are b and c, and this is the state at the next byte.
abbrev pub key_from : Bool → ℕ → State → (n b c : ℕ) → List ℕ → ℕ
key_from is_form depth state n b c [] = n
key_from is_form depth state n b c (e ∷ rest) =
    if is_value (next_state depth state (kind_after is_form b c e)) then n else key_from is_form depth (next_state depth state (kind_after is_form b c e)) (n + 1) c e rest

-- the same for a whole pair
abbrev pub key_len : Bool → ℕ → List ℕ → ℕ
key_len is_form depth pair = key_from is_form depth Root 0 0 0 pair

-- The range of the pair that continues up to the last parsed byte. It ends at the first `&` from that byte on, or at the end of the input.
-- The key ends at the first `=` outside brackets, or at the end of the pair.
pub record IsPairAt (config : Config) (input : List ℕ) (position : ℕ) (p : PairRange) : Type 0 where
  pub start : p.start ≡ pair_start config.is_form config.max_depth (take (last_parsed input position) input)
  pub end : IsFirst 38 input (last_parsed input position) (length input) p.end
  pub key_end : p.key_end ≡ p.start + key_len config.is_form config.max_depth (slice_range input p.start p.end)
  pub within : p.key_end ≤ p.end
