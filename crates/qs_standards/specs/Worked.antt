-- Short names for the worked examples.
use Rattle.std.specs.Prelude.{◌≡◌, ℕ, Bool, false, true, List}
use Rattle.qs_spec.specs.Segment.{Segment}
use Rattle.qs_spec.specs.Leaf.{Leaf}
use Rattle.qs_spec.specs.Tree.{Tree, IsTree}
use Rattle.qs_spec.specs.Tree.Entries.{entry, no_entries}
use Rattle.qs_standards.specs.FormUrlencoded.{NameValue, form_parsed}

-- a name and a value
abbrev pub named : List ℕ → List ℕ → NameValue
named name value = record { name = name; value = value }

-- a map of one leaf
abbrev pub one_leaf : Segment → Bool → Leaf → Tree
one_leaf key escaped l = Tree.mapping (entry key escaped (Tree.leaf l) no_entries)

-- the names and values that the standard's parser returns for an input, and the input's tree with depth limit 0
pub record ReadsBoth (input : List ℕ) (ns : List NameValue) (t : Tree) : Type 0 where
  pub parsed : form_parsed input ≡ ns
  pub in_query_mode : IsTree false 0 input t
  pub in_form_mode : IsTree true 0 input t
