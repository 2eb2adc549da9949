-- Leaves: what follows a key.
use Rattle.std.specs.Prelude.{ℕ, Bool, List, [], ◌∷◌}
use Rattle.qs_spec.specs.Escape.{decoded, has_escape}

-- no `=`, nothing after `=`, or a text, and whether its raw bytes hold `+` or `%`
pub data Leaf : Type 0 where
  NoValue : Leaf
  Null : Leaf
  Text : (bytes : List ℕ) → (escaped : Bool) → Leaf

-- the leaf of the raw bytes after `=`
abbrev pub value_leaf : List ℕ → Leaf
value_leaf [] = Null
value_leaf (b ∷ raw) = Text (decoded (b ∷ raw)) (has_escape (b ∷ raw))

-- the bytes that a leaf holds
abbrev pub leaf_text : Leaf → List ℕ
leaf_text NoValue = []
leaf_text Null = []
leaf_text (Text bytes escaped) = bytes
