-- What callers see of a serializer.
use Rattle.std.specs.Prelude.{ℕ, ◌≤◌, Bool, List}
use Rattle.qs_spec.specs.Config.{Config}
use Rattle.qs_spec.specs.Data.{Data}
use Rattle.qs_spec.specs.Entry.{Output, entries}
use Rattle.qs_spec.specs.Written.{written}

-- how it writes, where to, whether it returned an error, and whether an entry with a key was written
pub record State (S : Type 0) : Type 0 where
  pub config : Config
  pub sink : S
  pub failed : Bool
  pub started : Bool

-- the entries of data as the serializer is configured, and the first error
abbrev pub output_of : {S : Type 0} → State S → Data → Output
output_of s d = entries s.config d

-- the text of those entries, after what was written before
abbrev pub text_of : {S : Type 0} → State S → Data → List ℕ
text_of s d = written s.config.is_form s.started (output_of s d).entries

-- a byte above the space and below 0x7F
abbrev pub IsVisible : ℕ → Type 0
IsVisible b = (33 ≤ b) × (b ≤ 126)

-- no value or nothing, also in options and types of their own: what doesn't allocate if it is alone
abbrev pub IsUnallocated : Data → Type 0
IsUnallocated Data.unit = Unit {0}
IsUnallocated Data.none = Unit {0}
IsUnallocated (Data.some d) = IsUnallocated d
IsUnallocated (Data.newtype d) = IsUnallocated d
IsUnallocated _ = ⊥
