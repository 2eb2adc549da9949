-- What a call returns to its caller.
use Rattle.std.specs.Prelude.{◌≡◌, ℕ, ◌<◌, ◌≤◌, ◌++◌, List, length, drop}
use Rattle.qs_c.specs.declared.answer.Answer.{Answer}

-- The bytes are at the front of the buffer if they fit there; otherwise the buffer is unchanged. `len` is their length.
pub record IsLaidOut (text before after : List ℕ) (len : ℕ) : Type 0 where
  pub len_is : len ≡ length text
  pub fits : length text ≤ length before → after ≡ text ++ drop (length text) before
  pub too_long : length before < length text → after ≡ before

-- The bytes are the result, with status 0 if they fit into the buffer, and otherwise with status 1.
pub record IsHandedOut (text before after : List ℕ) (status len : ℕ) : Type 0 where
  pub len_is : len ≡ length text
  pub fits : length text ≤ length before → (status ≡ 0) × (after ≡ text ++ drop (length text) before)
  pub too_long : length before < length text → (status ≡ 1) × (after ≡ before)

-- The buffer is unchanged, and there is neither a text nor a position.
pub record LeavesNothing (before after : List ℕ) (answer : Answer) : Type 0 where
  pub unchanged : after ≡ before
  pub len_is : answer.len ≡ 0
  pub position_is : answer.position ≡ 0
