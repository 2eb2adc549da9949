-- What is found under a name.
use Rattle.std.specs.Prelude.{◌≡◌, List, [], ◌∷◌}
use Rattle.qs_spec.specs.Tree as t
use Rattle.qs_tree.specs.tree.Views.{tree_of}
use Rattle.qs_data.specs.declared.read.keys.Found.{Found}
use Rattle.qs_data.specs.declared.read.keys.Found.TheVariants.{Missing, One, Several}

-- the one value, if there is one
abbrev pub IsFound : Found → List t.Tree → Type 0
IsFound Missing ts = ts ≡ []
IsFound (One value) ts = ts ≡ tree_of value.now ∷ []
IsFound Several ts = (a : t.Tree) × (b : t.Tree) × (rest : List t.Tree) × (ts ≡ a ∷ b ∷ rest)
