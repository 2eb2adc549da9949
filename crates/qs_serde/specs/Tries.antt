-- Which marks are those of untagged enums, whose variants have to read all of a node.
use Rattle.std.specs.Prelude.{◌==◌, Bool, true, false, not, ◌&&◌, ◌||◌, cond, List, Option, Some, None}
use Rattle.std.specs.List.{list_any}
use Rattle.serde.specs.declared.name.Name.{Name}
use Rattle.qs_tree.specs.tree.Views.{tree_of}
use Rattle.qs_serde.specs.Nodes.{is_map}
use Rattle.qs_serde.specs.Places.{count_of, whole_part}
use Rattle.qs_serde.specs.declared.reading.node.Part.{Part}
use Rattle.qs_serde.specs.declared.reading.node.Part.TheVariants as p
use Rattle.qs_serde.specs.declared.reading.format.Asked.{Asked}
use Rattle.qs_serde.specs.declared.reading.format.Asked.TheVariants as a
use Rattle.qs_serde.specs.declared.reading.format.Mark.{Mark}
use Rattle.qs_serde.specs.declared.reading.format.TreeFormat.{TreeFormat}

-- The kind of the node was requested last: a mark is then taken for that of an untagged enum.
abbrev pub asks_kind : Asked → Bool
asks_kind a.Kind = true
asks_kind _ = false

-- the format after a mark
abbrev pub marked : TreeFormat → TreeFormat
marked f = record f {
  part = cond (asks_kind f.asked) (whole_part f.part) f.part;
  is_tried = cond (asks_kind f.asked) true f.is_tried;
  was_tried = cond (asks_kind f.asked) (Some f.is_tried) None;
  asked = cond (asks_kind f.asked) a.Marked a.Tried;
}

-- whether a variant is tried after a rewind to a mark
abbrev pub tried_back : Mark → TreeFormat → Bool
tried_back mark f = f.is_tried && (mark.is_tried || mark.is_try)

-- Whether a variant is tried once it is known that the last mark wasn't that of an untagged enum.
abbrev pub settled_try : TreeFormat → Bool
settled_try f = tried_as f.is_tried f.was_tried where
  tried_as : Bool → Option Bool → Bool
  tried_as is_tried None = is_tried
  tried_as is_tried (Some was_tried) = is_tried && was_tried

-- A text that names a variant right after the only key that was requested is that of a tag, and so was the mark.
abbrev pub asks_content : Asked → Bool
asks_content a.Content = true
asks_content _ = false

abbrev pub tried_at_name : TreeFormat → Bool
tried_at_name f = cond (asks_content f.asked) (settled_try f) f.is_tried

-- the fields of a struct share its map with others
abbrev pub is_shared : List Name → Bool
is_shared names = list_any (λ (n : Name). n.skipped) names

-- whether a variant is tried after the first key of a map was requested
abbrev pub is_marked : Asked → Bool
is_marked a.Marked = true
is_marked _ = false

abbrev pub tried_after : List Name → TreeFormat → Bool
tried_after names f = cond (is_marked f.asked && is_shared names) (settled_try f) f.is_tried

abbrev pub is_first : TreeFormat → Bool
is_first f = count_of f == 0

abbrev pub settled : List Name → TreeFormat → TreeFormat
settled names f = record f { is_tried = cond (is_first f) (tried_after names f) f.is_tried }

-- Whether the innermost node has to be a map that isn't a list, when its first key is requested: for a variant with fields of an untagged
-- enum, or of one with a tag and a content.
abbrev pub needs_map : List Name → Asked → Bool
needs_map names a.Marked = not (is_shared names)
needs_map names a.Content = true
needs_map names _ = false

abbrev pub may_enter : List Name → TreeFormat → Bool
may_enter names f = not (is_first f && needs_map names f.asked) || is_map (tree_of f.top.now)

-- the same when its first entry is requested
abbrev pub may_go_over : TreeFormat → Bool
may_go_over f = not (is_first f && is_marked f.asked) || is_map (tree_of f.top.now)

-- the part of a value in a map that is read first: the first key of an enum names its variant
abbrev pub picked_part : List Name → TreeFormat → Part
picked_part names f = cond (settled names f).is_tried p.Whole (cond (is_first f && asks_kind f.asked) p.Held p.Value)
