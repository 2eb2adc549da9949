-- What is expected of a part, and what is found there.
use Rattle.std.specs.Prelude.{◌≡◌, ℕ, ⊤, List, [], ◌∷◌, map, string_bytes}
use Rattle.qs_spec.specs.Shape.{Shape, Variants, no_variants, one_variant}
use Rattle.qs_spec.specs.Leaf as l
use Rattle.qs_spec.specs.Tree.{Tree}
use Rattle.qs_data.specs.declared.failure.expected.Expected.{Expected}
use Rattle.qs_data.specs.declared.failure.expected.Expected.TheVariants as e
use Rattle.qs_data.specs.declared.failure.actual.Actual.{Actual}
use Rattle.qs_data.specs.declared.failure.actual.Actual.TheVariants as a

-- the names of variants
abbrev pub variant_names : Variants → List (List ℕ)
variant_names no_variants = []
variant_names (one_variant name k vs) = name ∷ variant_names vs

-- one of these names is expected
abbrev pub IsOneOf : List (List ℕ) → Expected → Type 0
IsOneOf names (e.OneOf listed) = map string_bytes listed.items ≡ names
IsOneOf names _ = ⊥

-- what a shape expects: its kind, and for an enum the names of its variants; an option and a newtype expect what their part expects
abbrev pub Expects : Shape → Expected → Type 0
Expects Shape.unit expected = expected ≡ e.Unit
Expects Shape.boolean expected = expected ≡ e.Bool
Expects (Shape.unsigned bits) expected = expected ≡ e.Unsigned bits
Expects (Shape.signed bits) expected = expected ≡ e.Signed bits
Expects Shape.character expected = expected ≡ e.Char
Expects Shape.text expected = expected ≡ e.Text
Expects Shape.bytes expected = expected ≡ e.Bytes
Expects (Shape.option s) expected = Expects s expected
Expects (Shape.sequence s) expected = expected ≡ e.List
Expects (Shape.tuple ss) expected = expected ≡ e.Tuple
Expects (Shape.mapping k s) expected = expected ≡ e.Map
Expects (Shape.struct u fs) expected = expected ≡ e.Struct
Expects (Shape.newtype s) expected = Expects s expected
Expects (Shape.enumeration vs) expected = IsOneOf (variant_names vs) expected
Expects Shape.any expected = expected ≡ e.Anything
Expects Shape.ignored expected = expected ≡ e.Anything

-- what is found at a node, and for a text its bytes
abbrev pub Stands : Actual → Tree → Type 0
Stands a.NoValue (Tree.leaf l.Leaf.NoValue) = ⊤
Stands a.Empty (Tree.leaf l.Leaf.Null) = ⊤
Stands (a.Text text) (Tree.leaf (l.Leaf.Text bytes escaped)) = text.items ≡ bytes
Stands a.List (Tree.sequence xs) = ⊤
Stands a.Map (Tree.mapping es) = ⊤
Stands a.Nothing Tree.uninitialized = ⊤
Stands _ _ = ⊥
