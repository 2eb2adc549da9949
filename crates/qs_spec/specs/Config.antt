-- How a querystring is read and written.
use Rattle.std.specs.Prelude.{ℕ, Bool, true, false, List, [], Option, Some, None, decimal}

-- how the index of an element is written: as a number in brackets, as empty brackets, or not at all
pub data ArrayFormat : Type 0 where
  indexed : ArrayFormat
  empty_indexed : ArrayFormat
  unindexed : ArrayFormat

-- several values for a scalar: the last one is taken, or they are rejected
pub data Duplicates : Type 0 where
  take_last : Duplicates
  reject : Duplicates

-- depth limit, whether form mode, array format, and what happens to several values
pub record Config : Type 0 where
  pub max_depth : ℕ
  pub is_form : Bool
  pub array_format : ArrayFormat
  pub duplicates : Duplicates

-- the default configuration
abbrev pub default : Config
default = record { max_depth = 5; is_form = false; array_format = indexed; duplicates = take_last }

-- several values are rejected
abbrev pub are_rejected : Duplicates → Bool
are_rejected take_last = false
are_rejected reject = true

-- the segment that the i-th element adds to its path, if any
abbrev pub element_segment : ArrayFormat → ℕ → Option (List ℕ)
element_segment indexed i = Some (decimal i)
element_segment empty_indexed i = Some []
element_segment unindexed i = None
