-- The pairs of this notation with depth limit 0, from the pieces of the URL Standard's parser.
use Rattle.std.specs.Prelude.{ℕ, ◌==◌, List, [], ◌∷◌, map, filter, if◌then◌else◌}
use Rattle.qs_spec.specs.Segment.{ParsedSegment, parsed_segment_of}
use Rattle.qs_spec.specs.Leaf.{Leaf, value_leaf}
use Rattle.qs_spec.specs.Leaf.Leaf.{NoValue}
use Rattle.qs_spec.specs.Grammar.{Pair, assigned}
use Rattle.qs_standards.specs.FormUrlencoded.{split, isnt_empty, name_bytes}

-- what follows the first `=`, if there is one
abbrev pub piece_leaf : List ℕ → Leaf
piece_leaf [] = NoValue
piece_leaf (b ∷ bytes) = if b == 61 then value_leaf bytes else piece_leaf bytes

-- one segment, or none if there are no bytes
abbrev pub name_path : List ℕ → List ParsedSegment
name_path [] = []
name_path (b ∷ bytes) = parsed_segment_of (b ∷ bytes) ∷ []

-- a piece as a pair
abbrev pub piece_pair : List ℕ → Pair
piece_pair bytes = assigned (name_path (name_bytes bytes)) (piece_leaf bytes)

-- the pairs of an input
abbrev pub piece_pairs : List ℕ → List Pair
piece_pairs input = map piece_pair (filter isnt_empty (split input))
