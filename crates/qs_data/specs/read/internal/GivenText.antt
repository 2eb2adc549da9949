-- The text that a scalar is read from.
use Rattle.std.specs.Prelude.{ℕ, Bool, List, Option, Some, None, option_map, if◌then◌else◌}
use Rattle.std.specs.Str.{is_utf8}
use Rattle.qs_spec.specs.Leaf.Leaf.{NoValue, Null, Text}
use Rattle.qs_spec.specs.Tree.{Tree}
use Rattle.qs_spec.specs.Tree.Tree.{leaf, sequence, mapping, uninitialized}
use Rattle.qs_spec.specs.Data.{Data}
use Rattle.qs_spec.specs.Node.{last_item}

-- none if there is no value or an empty one, and otherwise the last text
abbrev pub given_text : Bool → Tree → Option (Option (List ℕ))
given_text reject_duplicates (leaf NoValue) = Some None
given_text reject_duplicates (leaf Null) = Some None
given_text reject_duplicates (leaf (Text bytes escaped)) = Some (Some bytes)
given_text reject_duplicates (sequence xs) = option_map Some (last_item reject_duplicates xs)
given_text reject_duplicates (mapping es) = None
given_text reject_duplicates uninitialized = None

-- what is read if there is no text, and what is read from a text
abbrev pub data_by_text : Option Data → (List ℕ → Option Data) → Option (List ℕ) → Option Data
data_by_text empty get None = empty
data_by_text empty get (Some bytes) = get bytes

-- the bytes, if they are UTF-8
abbrev pub utf8_text : List ℕ → Option (List ℕ)
utf8_text bytes = if is_utf8 bytes then Some bytes else None
