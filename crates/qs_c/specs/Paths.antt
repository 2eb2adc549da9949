-- What is at a path of a querystring.
use Rattle.std.specs.Prelude.{◌≡◌, ◌⊎◌, ℕ, Bool, true, false, List, [], ◌∷◌, drop, Option, Some, None, option_and_then, IsTrue, IsFalse}
use Rattle.qs_spec.specs.Config.{Config}
use Rattle.qs_spec.specs.Data.{Data}
use Rattle.qs_spec.specs.Leaf.Leaf.{NoValue}
use Rattle.qs_spec.specs.Node.{items, value_at_key}
use Rattle.qs_spec.specs.Relation.{ReadsBy, ReadsNothing}
use Rattle.qs_spec.specs.Segment.{Segment}
use Rattle.qs_spec.specs.Segment.Segment.{Int, Str}
use Rattle.qs_spec.specs.Shape.{Shape}
use Rattle.qs_spec.specs.Tree.{Tree, IsTree, HasNoTree}
use Rattle.qs_spec.specs.Tree.Tree.{leaf, mapping}
use Rattle.qs_spec.specs.Tree.Entries.{no_entries, entry}
use Rattle.qs_c.specs.declared.failure.FailureKind.{FailureKind}
use Rattle.qs_c.specs.declared.failure.FailureKind.TheVariants as kind
use Rattle.qs_c.specs.declared.settings.Settings.{Settings}
use Rattle.qs_c.specs.Limits.{IsTooLarge}
use Rattle.qs_c.specs.Outcomes.{IsRejected}
use Rattle.qs_c.specs.Settings.{config_of, AreNone}

-- the tree of a key without a value: one entry below the other
abbrev pub is_key : Tree → Bool
is_key (leaf NoValue) = true
is_key (mapping (entry k escaped t no_entries)) = is_key t
is_key _ = false

-- the segments of the first key of a tree
abbrev pub first_path : Tree → List Segment
first_path (mapping (entry k escaped t es)) = k ∷ first_path t
first_path _ = []

-- the text is a key with these segments
pub record IsPath (config : Config) (text : List ℕ) (path : List Segment) : Type 0 where
  pub tree : Tree
  pub is_tree : IsTree config.is_form config.max_depth text tree
  pub is_key : IsTrue (is_key tree)
  pub segments : path ≡ first_path tree

-- the text isn't a key: it can't be parsed, or has a value or several pairs
abbrev pub IsNoPath : Config → List ℕ → Type 0
IsNoPath config text = HasNoTree config.is_form config.max_depth text ⊎ ((tree : Tree) × IsTree config.is_form config.max_depth text tree × IsFalse (is_key tree))

-- the first of some items, if it isn't missing
abbrev pub first_there : List (Option Tree) → Option Tree
first_there [] = None
first_there (x ∷ xs) = x

-- the item at an index of a node that is a list
abbrev pub item_at : ℕ → Tree → Option Tree
item_at i t = option_and_then (λ xs. first_there (drop i xs)) (items t)

-- the index, if the segment is an integer
abbrev pub index_of : Segment → Option ℕ
index_of (Int i) = Some i
index_of (Str bytes) = None

-- the node at a segment: the value at the key of a map, or the item at the index of any other node
abbrev pub child : Segment → Tree → Option Tree
child k (mapping es) = value_at_key k es
child k t = option_and_then (λ i. item_at i t) (index_of k)

-- the node to which the segments lead
abbrev pub node_at : List Segment → Tree → Option Tree
node_at [] t = Some t
node_at (k ∷ path) t = option_and_then (node_at path) (child k t)

-- in the tree of the input the segments lead to this node, or nowhere if it is `None`
pub record LeadsTo (config : Config) (path : List Segment) (input : List ℕ) (node : Option Tree) : Type 0 where
  pub tree : Tree
  pub is_tree : IsTree config.is_form config.max_depth input tree
  pub is_node : node_at path tree ≡ node

-- the segments lead to a node from which these bytes are read
abbrev pub HoldsBytes : Config → List Segment → List ℕ → List ℕ → Type 0
HoldsBytes config path input bytes = (node : Tree) × LeadsTo config path input (Some node) × ReadsBy config Shape.bytes node (Data.bytes bytes)

-- the segments lead to a node from which no bytes are read
abbrev pub HoldsNoBytes : Config → List Segment → List ℕ → Type 0
HoldsNoBytes config path input = (node : Tree) × LeadsTo config path input (Some node) × ReadsNothing config Shape.bytes node

-- the text is a path, and these are the bytes at it
abbrev pub IsValueAt : Config → List ℕ → List ℕ → List ℕ → Type 0
IsValueAt config text input bytes = (path : List Segment) × IsPath config text path × HoldsBytes config path input bytes

-- what holds if the bytes at these segments aren't read, with an error of this kind at this position
abbrev pub WhyNoBytes : FailureKind → ℕ → Config → List Segment → List ℕ → Type 0
WhyNoBytes kind.OutOfMemory position config path input = position ≡ 0
WhyNoBytes kind.Parse position config path input = IsRejected config input position
WhyNoBytes kind.Mismatch position config path input = (position ≡ 0) × HoldsNoBytes config path input
WhyNoBytes kind.NotUtf8 position config path input = (position ≡ 0) × HoldsNoBytes config path input
WhyNoBytes kind.Absent position config path input = (position ≡ 0) × LeadsTo config path input None
WhyNoBytes _ position config path input = ⊥

-- the same for the path that this text is, with the errors of the settings, the limits and the path
abbrev pub WhyNoValue : FailureKind → ℕ → Settings → List ℕ → List ℕ → Type 0
WhyNoValue kind.OutOfMemory position settings text input = position ≡ 0
WhyNoValue kind.Settings position settings text input = (position ≡ 0) × AreNone settings
WhyNoValue kind.TooLarge position settings text input = (position ≡ 0) × IsTooLarge settings input
WhyNoValue kind.Path position settings text input = (position ≡ 0) × IsNoPath (config_of settings) text
WhyNoValue k position settings text input = (path : List Segment) × IsPath (config_of settings) text path × WhyNoBytes k position (config_of settings) path input
