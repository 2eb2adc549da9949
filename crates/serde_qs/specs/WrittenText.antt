-- What is written of a value.
use Rattle.std.specs.Prelude.{◌≡◌, ⊤, ℕ, ◌<◌, false, List, length, take, string_bytes, Result, Ok, Err, Option, Some, None, OnOk}
use Rattle.std.specs.List.{All}
use Rattle.std.specs.Io.KnownBytes.{Appends}
use Rattle.std.specs.declared.string.String.{String}
use Rattle.std.specs.declared.alloc.Global.{Global}
use Rattle.qs_tree.specs.declared.error.Error.{Error}
use Rattle.qs_tree.specs.declared.error.Error.TheVariants.{MaxSerializationDepthExceeded, Unsupported, Io, OutOfMemory}
use Rattle.qs_tree.specs.Error.{IsTooDeep, IsUnsupported, IsIo, IsOutOfMemory}
use Rattle.qs_data.specs.write.State.{IsVisible}
use Rattle.qs_spec.specs.Config.{Config}
use Rattle.qs_spec.specs.Data.{Data}
use Rattle.qs_spec.specs.Entry.{entries, too_deep, bad_key}
use Rattle.qs_spec.specs.Written.{written}

-- the querystring of data: the text of its entries
abbrev pub text_of : Config → Data → List ℕ
text_of config x = written config.is_form false (entries config x).entries

-- the text of the first k of them
abbrev pub text_of_first : ℕ → Config → Data → List ℕ
text_of_first k config x = written config.is_form false (take k (entries config x).entries)

-- the whole text, of visible bytes, exactly if nothing is rejected; otherwise the error, or that an allocation failed
abbrev pub ReturnsText : Config → Data → Result (String Global) Error → Type 0
ReturnsText config x (Ok text) = ((entries config x).error ≡ None) × (string_bytes text ≡ text_of config x) × All IsVisible (string_bytes text)
ReturnsText config x (Err (MaxSerializationDepthExceeded n)) = (n ≡ config.max_depth) × ((entries config x).error ≡ Some too_deep)
ReturnsText config x (Err Unsupported) = (entries config x).error ≡ Some bad_key
ReturnsText config x (Err OutOfMemory) = ⊤
ReturnsText config x (Err _) = ⊥

-- only the errors of a serializer that hadn't failed
abbrev pub IsValueWriteError : {T : Type 0} → Result T Error → Type 0
IsValueWriteError (Ok x) = ⊤
IsValueWriteError (Err (MaxSerializationDepthExceeded n)) = ⊤
IsValueWriteError (Err Unsupported) = ⊤
IsValueWriteError (Err (Io e)) = ⊤
IsValueWriteError (Err OutOfMemory) = ⊤
IsValueWriteError (Err _) = ⊥

-- What a call wrote to a writer, whose bytes were old and are new: on Ok the whole text; if an entry was rejected, the text of the entries
-- before it; if a write failed, a proper prefix of the text; if an allocation failed, the text of the first few entries. Only visible bytes
-- are written.
pub record WritesValue {T : Type 0} (config : Config) (x : Data) (old new : Option (List ℕ)) (result : Result T Error) : Type 0 where
  pub whole : OnOk result ((entries config x).error ≡ None)
  pub text : OnOk result (Appends old new (text_of config x))
  pub too_deep : (n : ℕ) → IsTooDeep result n → (n ≡ config.max_depth) × ((entries config x).error ≡ Some too_deep)
  pub too_deep_text : (n : ℕ) → IsTooDeep result n → Appends old new (text_of config x)
  pub bad_key : IsUnsupported result → (entries config x).error ≡ Some bad_key
  pub bad_key_text : IsUnsupported result → Appends old new (text_of config x)
  pub io_text : IsIo result → (n : ℕ) × (n < length (text_of config x)) × Appends old new (take n (text_of config x))
  pub memory_text : IsOutOfMemory result → (k : ℕ) × Appends old new (text_of_first k config x)
  pub visible : (added : List ℕ) × Appends old new added × All IsVisible added
  pub errors : IsValueWriteError result
