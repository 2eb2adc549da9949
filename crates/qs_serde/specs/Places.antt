-- Where a format is in its tree: the node that the open lists and maps lead to, and what the next step reads.
use Rattle.std.specs.Prelude.{◌≡◌, Bool, true, false, cond, ℕ, zero, suc, ◌-◌, List, [], ◌∷◌, ◌++◌, drop, slice_get, Option, Some, None, option_map, option_to_list}
use Rattle.std.specs.Borrow.{Bor}
use Rattle.qs_spec.specs.Leaf.Leaf.{NoValue}
use Rattle.qs_spec.specs.Segment.{ParsedSegment}
use Rattle.qs_spec.specs.Tree.{Tree}
use Rattle.qs_spec.specs.Tree.Tree.{leaf, sequence, mapping, uninitialized}
use Rattle.qs_spec.specs.Node.{sequence_items}
use Rattle.qs_tree.specs.declared.tree.value.ParsedValue.{ParsedValue}
use Rattle.qs_tree.specs.tree.Views.{tree_of, entry_list}
use Rattle.qs_data.specs.read.Items.{first_item}
use Rattle.qs_serde.specs.Nodes.{key_tree, pairs_in, whole_text}
use Rattle.qs_serde.specs.declared.reading.node.Part.{Part}
use Rattle.qs_serde.specs.declared.reading.node.Part.TheVariants as p
use Rattle.qs_serde.specs.declared.reading.frame.Frame.{Frame}
use Rattle.qs_serde.specs.declared.reading.frame.Outer.{Outer}
use Rattle.qs_serde.specs.declared.reading.frame.FrameKind.{FrameKind}
use Rattle.qs_serde.specs.declared.reading.format.TreeFormat.{TreeFormat}

-- the item, or else the node
abbrev pub item_or : Tree → Option (Option Tree) → Tree
item_or t (Some (Some u)) = u
item_or t _ = t

-- the value of the entry, or else the node
abbrev pub value_or : Tree → Option (ParsedSegment × Tree) → Tree
value_or t (Some entry) = entry.1
value_or t None = t

-- the item or the value at an index of a node; the node itself if there is none, since a text is its own only item
abbrev pub child_at : Tree → ℕ → Tree
child_at (sequence xs) i = item_or (sequence xs) (first_item (drop i (sequence_items xs)))
child_at (mapping es) i = value_or (mapping es) (slice_get (entry_list es) i)
child_at t i = t

-- the current node of a list or a map after so many items or entries; the list or map itself before the first
abbrev pub last_part : Tree → ℕ → Tree
last_part t zero = t
last_part t (suc i) = child_at t i

-- the innermost list or map, with its node
abbrev pub innermost : Bor ParsedValue → Option Frame → Option Outer
innermost top frame = option_map (λ f. record { frame = f; top = top }) frame

-- the open lists and maps, the innermost last
abbrev pub opens : TreeFormat → List Outer
opens f = f.around.items ++ option_to_list (innermost f.top f.frame)

-- how many items or entries of a list or a map were reached
abbrev pub passed : Option Frame → ℕ
passed None = 0
passed (Some frame) = frame.next

-- how many items or entries of the innermost list or map were reached
abbrev pub count_of : TreeFormat → ℕ
count_of f = passed f.frame

-- the kind of the innermost list or map
abbrev pub kind_of : TreeFormat → Option FrameKind
kind_of f = option_map (λ frame. frame.kind) f.frame

-- Open lists and maps, the outermost first, lead from a node to another: each is the current node of the one around it.
abbrev pub Lead : List Outer → Tree → Tree → Type 0
Lead [] t u = u ≡ t
Lead (outer ∷ outers) t u = (tree_of outer.top.now ≡ t) × Lead outers (last_part t outer.frame.next) u

-- The format is where its open lists and maps lead from some root: `top` is the innermost, and `node` is the current node in it.
abbrev pub IsAt : TreeFormat → Type 0
IsAt f =
    ((root : Tree) × Lead f.around.items root (tree_of f.top.now))
    × (tree_of f.node.now ≡ last_part (tree_of f.top.now) (count_of f))

-- a part of the current node
abbrev pub part_tree : Part → Tree → Tree → ℕ → Tree
part_tree p.Value node top at = node
part_tree p.Held node top at = node
part_tree p.NoValue node top at = leaf NoValue
part_tree p.Key node top at = key_tree (slice_get (pairs_in top) at)
part_tree p.Whole node top at = node
part_tree p.Nothing node top at = leaf NoValue

abbrev pub part_view : TreeFormat → Part → Tree
part_view f part = part_tree part (tree_of f.node.now) (tree_of f.top.now) (count_of f - 1)

-- what is next
abbrev pub tree_at : TreeFormat → Tree
tree_at f = part_view f f.part

-- the same as a scalar reads it
abbrev pub scalar_of : Part → Tree → Tree
scalar_of p.Value t = t
scalar_of p.Held t = t
scalar_of p.NoValue t = t
scalar_of p.Key t = t
scalar_of p.Whole t = whole_text t
scalar_of p.Nothing t = uninitialized

abbrev pub scalar_at : TreeFormat → Tree
scalar_at f = scalar_of f.part (tree_at f)

-- the part that is read first of a node, and of a node under a variant's name; whether it is for a variant of an untagged enum
abbrev pub value_part : Bool → Part
value_part is_tried = cond is_tried p.Whole p.Value

abbrev pub held_part : Bool → Part
held_part is_tried = cond is_tried p.Whole p.Held

-- whether a part is for such a variant
abbrev pub is_tried_part : Part → Bool
is_tried_part p.Whole = true
is_tried_part p.Nothing = true
is_tried_part _ = false

-- a part, for such a variant
abbrev pub whole_part : Part → Part
whole_part p.Value = p.Whole
whole_part p.Held = p.Whole
whole_part p.NoValue = p.Nothing
whole_part p.Key = p.Key
whole_part p.Whole = p.Whole
whole_part p.Nothing = p.Nothing
