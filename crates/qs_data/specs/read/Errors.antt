-- The errors of reading.
use Rattle.std.specs.Prelude.{⊤, Result, Ok, Err}
use Rattle.qs_tree.specs.declared.error.Error.{Error}
use Rattle.qs_tree.specs.declared.error.Error.TheVariants.{Custom, Utf8, OutOfMemory}

-- the error says that a tree doesn't fit a shape, or that an allocation failed
abbrev pub IsCustomOrOutOfMemory : Error → Type 0
IsCustomOrOutOfMemory (Custom message) = ⊤
IsCustomOrOutOfMemory OutOfMemory = ⊤
IsCustomOrOutOfMemory _ = ⊥

-- the error says that a text isn't UTF-8, or that an allocation failed
abbrev pub IsUtf8OrOutOfMemory : Error → Type 0
IsUtf8OrOutOfMemory (Utf8 cause) = ⊤
IsUtf8OrOutOfMemory OutOfMemory = ⊤
IsUtf8OrOutOfMemory _ = ⊥

-- the error says that a tree doesn't fit a shape, that a text isn't UTF-8, or that an allocation failed
abbrev pub IsOfReading : Error → Type 0
IsOfReading (Custom message) = ⊤
IsOfReading (Utf8 cause) = ⊤
IsOfReading OutOfMemory = ⊤
IsOfReading _ = ⊥

-- no other error than these
abbrev pub OnlyCustomUtf8OrOutOfMemory : {X : Type 0} → Result X Error → Type 0
OnlyCustomUtf8OrOutOfMemory (Ok x) = ⊤
OnlyCustomUtf8OrOutOfMemory (Err e) = IsOfReading e
