-- What the open path of a tree under construction holds.
use Rattle.std.specs.Prelude.{◌≡◌, List, [], ◌∷◌, Option, Some, option_map, option_and_then, unwrap_or}
use Rattle.qs_spec.specs.Segment.{ParsedSegment}
use Rattle.qs_spec.specs.Tree.{Tree, Entries, mapping, uninitialized}
use Rattle.qs_spec.specs.internal.InPlace.{update, add_below}
use Rattle.qs_tree.specs.declared.build.descent.OpenMap.{OpenMap}
use Rattle.qs_tree.specs.declared.build.descent.OpenMap.TheVariants.{Finished, Unfinished}
use Rattle.qs_tree.specs.declared.build.descent.ParentMap.{ParentMap}
use Rattle.qs_tree.specs.declared.build.descent.OpenTree.{OpenTree}
use Rattle.qs_tree.specs.declared.tree.key.Key.{Key}
use Rattle.qs_tree.specs.tree.Views.{segment_of_key, parsed_segment_of_key, entries_of_map}
use Rattle.qs_tree.specs.internal.build.Builder.{built_tree, built_entries, fresh, HasNoMap}

-- the entries of an open map
abbrev pub open_entries : OpenMap → Entries
open_entries (Finished m) = entries_of_map m
open_entries (Unfinished m) = built_entries m

-- the frame's map with a node put back
abbrev pub put_back : ParentMap → Tree → Option Tree
put_back m t = option_map mapping (update (parsed_segment_of_key m.key) (λ _. Some t) (open_entries m.map))

-- the same for several frames, from the top down
abbrev pub put_all_back : List ParentMap → Tree → Option Tree
put_all_back [] t = Some t
put_all_back (m ∷ ms) t = option_and_then (put_back m) (put_all_back ms t)

-- the whole tree, with all maps put back
abbrev pub whole_tree : OpenTree → Tree
whole_tree o = unwrap_or (put_all_back o.frames.items (built_tree o.node)) uninitialized

-- the frame of the node at a key: an update of that node is put back by the frame
abbrev pub IsOpen : ParsedSegment → Tree → ParentMap → Tree → Type 0
IsOpen s before m taken = (f : Tree → Option Tree) → add_below s f before ≡ option_and_then (put_back m) (f taken)

-- the keys of these frames are the first of these keys, ignoring escapes
abbrev pub AreKeys : List ParentMap → List Key → Type 0
AreKeys [] ks = Unit {0}
AreKeys (m ∷ ms) [] = ⊥
AreKeys (m ∷ ms) (k ∷ ks) = (segment_of_key m.key ≡ segment_of_key k) × AreKeys ms ks

-- no map is open, and there is no pair
abbrev pub IsFresh : OpenTree → Type 0
IsFresh o = (o.frames.items ≡ []) × (o.node ≡ fresh)

-- the tree isn't a map
abbrev pub IsWithoutMaps : OpenTree → Type 0
IsWithoutMaps o = (o.frames.items ≡ []) × HasNoMap o.node
