-- What a step may read: a node of the tree, or a key that leads to it.
use Rattle.std.specs.Prelude.{◌≡◌, Bool, true, false, not, List, [], ◌∷◌, Option, Some, None, option_map}
use Rattle.qs_spec.specs.Segment.{segment_text, ParsedSegment}
use Rattle.qs_spec.specs.Leaf.Leaf.{NoValue, Null, Text}
use Rattle.qs_spec.specs.Tree.{Tree}
use Rattle.qs_spec.specs.Tree.Tree.{leaf, sequence, mapping, uninitialized}
use Rattle.qs_spec.specs.Node.{are_ints, under_empty, sequence_items, placed}
use Rattle.qs_tree.specs.tree.Views.{tree_of, entry_list, segment_of_key}
use Rattle.qs_serde.specs.declared.reading.node.Node.{Node}
use Rattle.qs_serde.specs.declared.reading.node.Node.TheVariants as n

-- its tree: a key is its text
abbrev pub node_tree : Node → Tree
node_tree (n.Value v) = tree_of v.now
node_tree n.NoValue = leaf NoValue
node_tree (n.Key k) = leaf (Text (segment_text (segment_of_key k.now)) false)
node_tree n.EmptyKey = leaf (Text [] false)
node_tree n.Nothing = uninitialized

-- A node as a scalar reads it for a variant of an untagged enum: an empty value is an empty text, and nothing but a text is read.
abbrev pub whole_text : Tree → Tree
whole_text (leaf (Text t mark)) = leaf (Text t mark)
whole_text (leaf Null) = leaf (Text [] false)
whole_text _ = uninitialized

-- whether a node is a list, and whether it is a map that isn't a list
abbrev pub is_list : Tree → Bool
is_list (sequence xs) = true
is_list (mapping es) = are_ints es
is_list _ = false

abbrev pub is_map : Tree → Bool
is_map (mapping es) = not (are_ints es)
is_map _ = false

-- the entries of a map; a text is an entry under the empty key
abbrev pub pairs_in : Tree → List (ParsedSegment × Tree)
pairs_in (mapping es) = entry_list es
pairs_in (leaf (Text t mark)) = entry_list (under_empty (leaf (Text t mark)))
pairs_in _ = []

-- the text of an entry's key
abbrev pub key_tree : Option (ParsedSegment × Tree) → Tree
key_tree None = leaf (Text [] false)
key_tree (Some entry) = leaf (Text (segment_text entry.0.segment) false)

-- the entry has this key and this value
abbrev pub IsEntry : Option (ParsedSegment × Tree) → Node → Tree → Type 0
IsEntry entry key value = (node_tree key ≡ key_tree entry) × (option_map (λ e. e.1) entry ≡ Some value)

-- the items of a list, each at its index
abbrev pub listed : Tree → List (Option Tree)
listed (leaf (Text t mark)) = Some (leaf (Text t mark)) ∷ []
listed (sequence xs) = sequence_items xs
listed (mapping es) = placed 0 es
listed _ = []
