-- The message of an error, and which error a call returned.
use Rattle.std.specs.Prelude.{◌≡◌, ℕ, ◌++◌, ⊤, Result, Ok, Err, List, Option, Some, None, IfSome, codes, decimal, string_bytes}
use Rattle.qs_tree.specs.declared.error.Error.{Error}
use Rattle.qs_tree.specs.declared.error.Error.TheVariants.{Custom, MaxSerializationDepthExceeded, Parse, Unsupported, FromUtf8, Io, ParseInt, Utf8, OutOfMemory, Failed}

-- the message; those of std's errors aren't specified here
abbrev pub error_text : Error → Option (List ℕ)
error_text (Custom message) = Some (string_bytes message)
error_text (MaxSerializationDepthExceeded depth) = Some (codes "Maximum serialization depth `" ++ (decimal depth ++ codes "` exceeded"))
error_text (Parse message position) =
    Some (codes "parsing failed with error: '" ++ (string_bytes message ++ (codes "' at position: " ++ decimal position)))
error_text Unsupported = Some (codes "unsupported type for serialization")
error_text (FromUtf8 cause) = None
error_text (Io cause) = None
error_text (ParseInt cause) = None
error_text (Utf8 cause) = None
error_text OutOfMemory = Some (codes "out of memory")
error_text Failed = Some (codes "serializer has failed")

-- the call returned that a value nests deeper than this number
abbrev pub IsTooDeep : {T : Type 0} → Result T Error → ℕ → Type 0
IsTooDeep (Err (MaxSerializationDepthExceeded depth)) n = depth ≡ n
IsTooDeep _ n = ⊥

-- the call returned that the querystring is rejected
abbrev pub IsParse : {T : Type 0} → Result T Error → Type 0
IsParse (Err (Parse message position)) = ⊤
IsParse _ = ⊥

-- if the call returned that the querystring is rejected, this holds of the position
abbrev pub IfParse : {T : Type 0} → Result T Error → (ℕ → Type 0) → Type 0
IfParse (Err (Parse message position)) P = P position
IfParse _ P = ⊤

-- the call returned that a map's key has a kind that can't be written
abbrev pub IsUnsupported : {T : Type 0} → Result T Error → Type 0
IsUnsupported (Err Unsupported) = ⊤
IsUnsupported _ = ⊥

-- the call returned that a write failed
abbrev pub IsIo : {T : Type 0} → Result T Error → Type 0
IsIo (Err (Io cause)) = ⊤
IsIo _ = ⊥

-- the call returned that an allocation failed
abbrev pub IsOutOfMemory : {T : Type 0} → Result T Error → Type 0
IsOutOfMemory (Err OutOfMemory) = ⊤
IsOutOfMemory _ = ⊥

-- the call returned that the serializer had failed before
abbrev pub IsFailed : {T : Type 0} → Result T Error → Type 0
IsFailed (Err Failed) = ⊤
IsFailed _ = ⊥

-- if the call returned an error, an allocation failed
abbrev pub OnlyOutOfMemory : {T : Type 0} → Result T Error → Type 0
OnlyOutOfMemory (Ok x) = ⊤
OnlyOutOfMemory (Err OutOfMemory) = ⊤
OnlyOutOfMemory _ = ⊥

-- if the call returned an error, the querystring is rejected or an allocation failed
abbrev pub OnlyParseOrOutOfMemory : {T : Type 0} → Result T Error → Type 0
OnlyParseOrOutOfMemory (Ok x) = ⊤
OnlyParseOrOutOfMemory (Err (Parse message position)) = ⊤
OnlyParseOrOutOfMemory (Err OutOfMemory) = ⊤
OnlyParseOrOutOfMemory _ = ⊥

-- the error is `Custom` with this message, or the allocation of the message failed
abbrev pub IsCustomSaying : Error → Option (List ℕ) → Type 0
IsCustomSaying (Custom message) text = IfSome text (λ bytes. string_bytes message ≡ bytes)
IsCustomSaying OutOfMemory text = ⊤
IsCustomSaying _ text = ⊥

-- the error is `Parse` with this message and position, or the allocation of the message failed
abbrev pub IsParseSaying : Error → Option (List ℕ) → ℕ → Type 0
IsParseSaying (Parse message at) text position = IfSome text (λ bytes. string_bytes message ≡ bytes) × (at ≡ position)
IsParseSaying OutOfMemory text position = ⊤
IsParseSaying _ text position = ⊥
