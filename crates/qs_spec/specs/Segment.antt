-- Segments of a path: an integer key or a string key.
use Rattle.std.specs.Prelude.{ℕ, ◌+◌, ◌-◌, ◌*◌, Bool, false, ◌&&◌, nat_le, List, [], ◌∷◌, if◌then◌else◌, fold, decimal}
use Rattle.std.specs.List.{list_all}
use Rattle.std.specs.declared.cmp.Ordering.{Ordering}
use Rattle.std.specs.declared.cmp.Ordering.TheVariants.{Less, Greater}
use Rattle.std.specs.Ordering.{nat_cmp, is_eq}
use Rattle.std.specs.Cmp.Lexicographic.{slice_cmp}
use Rattle.qs_spec.specs.Escape.{is_between, decoded, has_escape}

-- an integer key, or a string key by its bytes
pub data Segment : Type 0 where
  Int : ℕ → Segment
  Str : List ℕ → Segment

-- a segment of an input, and whether its raw bytes hold `+` or `%`
pub record ParsedSegment : Type 0 where
  pub segment : Segment
  pub escaped : Bool

-- the number that ASCII digits write
abbrev pub number : List ℕ → ℕ
number raw = fold (λ n b. 10 * n + (b - 48)) 0 raw

-- one or more ASCII digits of a number below 2 ^ 32
abbrev pub is_index : List ℕ → Bool
is_index [] = false
is_index (b ∷ raw) = list_all (is_between 48 57) (b ∷ raw) && nat_le (number (b ∷ raw)) 4294967295

-- Raw bytes that are an index are an integer key. Others are decoded to a string key, as is the escaped digit `%31`.
abbrev pub segment_of : List ℕ → Segment
segment_of raw = if is_index raw then Int (number raw) else Str (decoded raw)

-- the segment of raw bytes, and whether they hold an escape
abbrev pub parsed_segment_of : List ℕ → ParsedSegment
parsed_segment_of raw = record { segment = segment_of raw; escaped = has_escape raw }

-- the decimal digits, or the bytes
abbrev pub segment_text : Segment → List ℕ
segment_text (Int n) = decimal n
segment_text (Str bytes) = bytes

-- integers before strings, integers by value, strings by bytes
abbrev pub compare_segments : Segment → Segment → Ordering
compare_segments (Int m) (Int n) = nat_cmp m n
compare_segments (Int m) (Str b) = Less
compare_segments (Str a) (Int n) = Greater
compare_segments (Str a) (Str b) = slice_cmp nat_cmp a b

-- neither segment is before the other
abbrev pub is_same_segment : Segment → Segment → Bool
is_same_segment k l = is_eq (compare_segments k l)
