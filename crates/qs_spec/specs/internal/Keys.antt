-- Keys that are written, parsed and looked up.
use Rattle.std.specs.Prelude.{◌≡◌, ℕ, ◌≤◌, ◌&&◌, not, List, [], ◌∷◌, Option, Some, None, if◌then◌else◌, ⊤}
use Rattle.std.specs.declared.cmp.Ordering.TheVariants.{Less}
use Rattle.qs_spec.specs.Segment.{Segment, number, is_index, compare_segments}
use Rattle.qs_spec.specs.Segment.Segment.{Int, Str}
use Rattle.qs_spec.specs.Scalar.{has_leading_zero}
use Rattle.qs_spec.specs.Node.{value_at_key}
use Rattle.qs_spec.specs.Tree.{Tree, Entries}
use Rattle.qs_spec.specs.Tree.Entries.{entry, no_entries}

-- the segment that written bytes are parsed as: their number, or the bytes themselves
abbrev pub written_segment : List ℕ → Segment
written_segment s = if is_index s then Int (number s) else Str s

-- the 32-bit number whose decimal digits these are, if there is one
abbrev pub printed_index : List ℕ → Option ℕ
printed_index s = if is_index s && not (has_leading_zero s) then Some (number s) else None

-- the value at an index, if there is one
abbrev pub value_at_index : Option ℕ → Entries → Option Tree
value_at_index None es = None
value_at_index (Some n) es = value_at_key (Int n) es

-- a list of one element, or the empty list
abbrev pub list_of : Option Tree → List Tree
list_of None = []
list_of (Some t) = t ∷ []

-- an index has 32 bits
abbrev pub IsInRange : Segment → Type 0
IsInRange (Int n) = n ≤ 4294967295
IsInRange (Str bytes) = ⊤

-- a key is less than the keys of the entries
abbrev pub AreAbove : Segment → Entries → Type 0
AreAbove k no_entries = ⊤
AreAbove k (entry j escaped t es) = (compare_segments k j ≡ Less) × AreAbove k es

-- each key is in range, and less than the keys after it
abbrev pub AreAscending : Entries → Type 0
AreAscending no_entries = ⊤
AreAscending (entry k escaped t es) = IsInRange k × AreAbove k es × AreAscending es

-- the keys of every map of a tree ascend
abbrev mutual
  pub IsAscending : Tree → Type 0
  IsAscending (Tree.leaf l) = ⊤
  IsAscending (Tree.sequence xs) = ⊤
  IsAscending (Tree.mapping es) = AreAscending es × HoldAscending es
  IsAscending Tree.uninitialized = ⊤

  pub HoldAscending : Entries → Type 0
  HoldAscending no_entries = ⊤
  HoldAscending (entry k escaped t es) = IsAscending t × HoldAscending es
