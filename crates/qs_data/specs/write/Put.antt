-- When a put fails.
use Rattle.std.specs.Prelude.{ℕ, Bool, ◌&&◌, nat_lt, ◌==◌, List, length, Result, Ok, Err}

-- some bytes were to be put, and none was taken, or an error was returned
abbrev pub put_fails : {E : Type 0} → Result ℕ E → List ℕ → Bool
put_fails (Ok n) bytes = n == 0 && nat_lt 0 (length bytes)
put_fails (Err e) bytes = nat_lt 0 (length bytes)
