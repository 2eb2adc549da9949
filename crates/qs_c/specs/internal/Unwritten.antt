-- The errors of writing to memory.
use Rattle.std.specs.Prelude.{◌≡◌, ⊤, ℕ}
use Rattle.qs_tree.specs.declared.error.Error.{Error}
use Rattle.qs_tree.specs.declared.error.Error.TheVariants.{MaxSerializationDepthExceeded, Unsupported, Io, OutOfMemory}

-- a serializer with this limit that hadn't failed before may return the error
abbrev pub IsUnwritten : ℕ → Error → Type 0
IsUnwritten max_depth (MaxSerializationDepthExceeded depth) = depth ≡ max_depth
IsUnwritten max_depth Unsupported = ⊤
IsUnwritten max_depth (Io cause) = ⊤
IsUnwritten max_depth OutOfMemory = ⊤
IsUnwritten max_depth _ = ⊥
