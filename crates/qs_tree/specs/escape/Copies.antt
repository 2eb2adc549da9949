-- What decoding borrows, and what it copies.
use Rattle.std.specs.Prelude.{ℕ, Bool, true, false}
use Rattle.std.specs.declared.borrow.CowSlice.{CowSlice}
use Rattle.std.specs.declared.borrow.CowSlice.TheVariants.{Borrowed, Owned}

-- the bytes were copied
abbrev pub is_owned : {A : Type 0} → CowSlice ℕ A → Bool
is_owned (Borrowed bytes) = false
is_owned (Owned bytes) = true
