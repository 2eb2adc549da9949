-- From the types of the code to the types of the definitions.
use Rattle.std.specs.Prelude.{ℕ, List, [], ◌∷◌, ◌++◌, Bool, true, false, if◌then◌else◌, map, decimal}
use Rattle.std.specs.Str.Lossy.{utf8_lossy}
use Rattle.std.specs.declared.borrow.CowSlice.TheVariants.{Borrowed, Owned}
use Rattle.qs_spec.specs.Segment.{Segment, ParsedSegment, is_same_segment, Int, Str}
use Rattle.qs_spec.specs.Leaf.Leaf.{NoValue, Null, Text}
use Rattle.qs_spec.specs.Tree.{Tree, Items, Entries, leaf, sequence, mapping, uninitialized, no_items, item, no_entries, entry}
use Rattle.qs_tree.specs.declared.tree.key.Key.{Key}
use Rattle.qs_tree.specs.declared.tree.key.Key.TheVariants as key
use Rattle.qs_tree.specs.declared.tree.value.ParsedValue.{ParsedValue, fold-ParsedValue}
use Rattle.qs_tree.specs.declared.tree.value.ParsedValue.TheOpen.{ParsedValue-F, ParsedMap-F}
use Rattle.qs_tree.specs.declared.tree.map.ParsedMap.{ParsedMap, fold-ParsedMap}

-- the segment of a key
abbrev pub segment_of_key : Key → Segment
segment_of_key (key.Int n) = Int n
segment_of_key (key.String (Borrowed r)) = Str r.now
segment_of_key (key.String (Owned v)) = Str v.items

-- whether a key is an owned string
abbrev pub is_owned_key : Key → Bool
is_owned_key (key.Int n) = false
is_owned_key (key.String (Borrowed r)) = false
is_owned_key (key.String (Owned v)) = true

-- a key as a segment, which is escaped if the key owns its string
abbrev pub parsed_segment_of_key : Key → ParsedSegment
parsed_segment_of_key k = record { segment = segment_of_key k; escaped = is_owned_key k }

-- trees as the items of a sequence, and as the entries of a map
abbrev pub items_from : List Tree → Items
items_from [] = no_items
items_from (t ∷ ts) = item t (items_from ts)

abbrev pub entries_from : List (Key × Tree) → Entries
entries_from [] = no_entries
entries_from (p ∷ ps) = entry (segment_of_key p.0) (is_owned_key p.0) p.1 (entries_from ps)

-- one level of a value, with what is inside already seen as trees
abbrev pub tree_step : ParsedValue-F Tree Entries → Tree
tree_step (ParsedValue-F.Map m) = mapping m
tree_step (ParsedValue-F.Sequence v) = sequence (items_from v.items)
tree_step (ParsedValue-F.String (Borrowed r)) = leaf (Text r.now false)
tree_step (ParsedValue-F.String (Owned v)) = leaf (Text v.items true)
tree_step ParsedValue-F.Null = leaf Null
tree_step ParsedValue-F.NoValue = leaf NoValue
tree_step ParsedValue-F.Uninitialized = uninitialized

-- one level of a map
abbrev pub map_step : ParsedMap-F Tree Entries → Entries
map_step m = entries_from m.map

-- the tree of a value, in which owned strings are escaped
abbrev pub tree_of : ParsedValue → Tree
tree_of = fold-ParsedValue Tree Entries tree_step map_step

-- the entries of a map, and the items of a sequence
abbrev pub entries_of_map : ParsedMap → Entries
entries_of_map = fold-ParsedMap Tree Entries tree_step map_step

abbrev pub items_of : List ParsedValue → Items
items_of vs = items_from (map tree_of vs)

-- entries as a list
abbrev pub entry_list : Entries → List (ParsedSegment × Tree)
entry_list no_entries = []
entry_list (entry k escaped t es) = (record { segment = k; escaped = escaped }, t) ∷ entry_list es

-- the entries of a map as a list
abbrev pub map_pairs : ParsedMap → List (ParsedSegment × Tree)
map_pairs m = entry_list (entries_of_map m)

-- the entries without the one at a segment
abbrev pub take_out : Segment → Entries → Entries
take_out s no_entries = no_entries
take_out s (entry k escaped t es) = if is_same_segment s k then es else entry k escaped t (take_out s es)

-- what `Display` writes of a key: an integer in decimal, or a string between double quotes, with U+FFFD for what isn't UTF-8
abbrev pub displayed_key : Segment → List ℕ
displayed_key (Int n) = decimal n
displayed_key (Str bytes) = 34 ∷ utf8_lossy bytes ++ 34 ∷ []
