-- Entries that can be parsed as they were written, and the pairs that they are parsed as.
use Rattle.std.specs.Prelude.{◌≡◌, true, ℕ, ◌+◌, ◌<◌, ◌≤◌, Bool, ◌&&◌, IsFalse, List, [], ◌∷◌, length, map, Option, Some, None, ⊤}
use Rattle.std.specs.List.{AllByRecursion}
use Rattle.qs_spec.specs.Escape.{encoded}
use Rattle.qs_spec.specs.Token.{is_bracket}
use Rattle.qs_spec.specs.Segment.{ParsedSegment, parsed_segment_of}
use Rattle.qs_spec.specs.Leaf.{Leaf, value_leaf}
use Rattle.qs_spec.specs.Leaf.Leaf.{NoValue}
use Rattle.qs_spec.specs.Grammar.{Pair, assigned}
use Rattle.qs_spec.specs.Entry.{Path, Entry}
use Rattle.qs_spec.specs.Written.{has_key}

-- the leaf and the path that an entry's value and path are parsed as
abbrev pub entry_leaf : Bool → Option (List ℕ) → Leaf
entry_leaf is_form None = NoValue
entry_leaf is_form (Some bytes) = value_leaf (encoded is_form bytes)

abbrev pub parsed_path : Bool → Path → List ParsedSegment
parsed_path is_form path = map (λ s. parsed_segment_of (encoded is_form s)) path

-- the pair that an entry is parsed as
abbrev pub entry_pair : Bool → Entry → Pair
entry_pair is_form e = assigned (parsed_path is_form e.path) (entry_leaf is_form e.value)

-- a segment: at least one byte, and in form mode no bracket
abbrev pub IsSegment : Bool → List ℕ → Type 0
IsSegment is_form [] = ⊥
IsSegment is_form (b ∷ s) = AllByRecursion (λ b. (b < 256) × IsFalse (is_form && is_bracket b)) (b ∷ s)

-- a value, if there is one, is bytes; an entry without a path has one
abbrev pub IsValueOf : Path → Option (List ℕ) → Type 0
IsValueOf [] None = ⊥
IsValueOf [] (Some bytes) = AllByRecursion (λ b. b < 256) bytes
IsValueOf (s ∷ path) None = ⊤
IsValueOf (s ∷ path) (Some bytes) = AllByRecursion (λ b. b < 256) bytes

-- an entry whose text is parsed as its pair
pub record IsWritable (is_form : Bool) (depth : ℕ) (e : Entry) : Type 0 where
  pub segments : AllByRecursion (IsSegment is_form) e.path
  pub short : length e.path ≤ depth + 1
  pub value : IsValueOf e.path e.value

-- the entry has a key
abbrev pub HasKey : Entry → Type 0
HasKey e = has_key e.path ≡ true
