-- What lists and maps give while they are read, one within the other.
use Rattle.std.specs.Prelude.{◌≡◌, ℕ, suc, ◌+◌, ◌≤◌, Bool, false, List, ◌++◌, map, drop, Option, Some, None, option_map, option_and_then, Result, Ok, Err}
use Rattle.qs_spec.specs.Data.{Data, values_of, pairs_of}
use Rattle.qs_spec.specs.Shape.{KeyShape}
use Rattle.qs_spec.specs.Tree.{Tree, Entries}
use Rattle.qs_spec.specs.internal.ReadFunction.{any_data, read_each, read_pairs, with_front}
use Rattle.qs_tree.specs.tree.Views.{entries_of_map}
use Rattle.qs_data.specs.declared.read.error.ReadError.{ReadError}
use Rattle.qs_data.specs.declared.read.nested.Partial.{Partial}
use Rattle.qs_data.specs.declared.read.nested.Partial.TheVariants as frame
use Rattle.qs_data.specs.declared.read.nested.PartialList.{PartialList}
use Rattle.qs_data.specs.declared.read.nested.PartialMap.{PartialMap}
use Rattle.qs_data.specs.declared.read.nested.Visited.{Visited}
use Rattle.qs_data.specs.declared.read.nested.Visited.TheVariants.{Leaf, Inner}
use Rattle.qs_data.specs.data.Views.{data_of, pair_of}
use Rattle.qs_data.specs.read.internal.ReadError.{ReadRejects}
use Rattle.qs_data.specs.read.Items.{items_view, are_text}
use Rattle.qs_data.specs.read.internal.Keys.{entries_after}
use Rattle.qs_data.specs.read.internal.Sizes.{tree_size, list_size, entries_size}
use Rattle.qs_data.specs.read.TreeText.{is_text, entries_are_text}

-- the items that weren't visited
abbrev pub items_left : PartialList → List (Option Tree)
items_left l = drop l.next (items_view l.items)

-- the entries that weren't visited
abbrev pub entries_left : PartialMap → Entries
entries_left m = entries_after m.next (entries_of_map m.entries.now)

-- the list whose first values are these
abbrev pub list_begun : List Data → Option (List Data) → Option Data
list_begun front rest = option_map (λ ds. Data.sequence (values_of ds)) (option_map (λ ds. front ++ ds) rest)

-- the map whose first pairs are these
abbrev pub map_begun : List (Data × Data) → Option (List (Data × Data)) → Option Data
map_begun front rest = option_map (λ ps. Data.mapping (pairs_of ps)) (option_map (λ ps. front ++ ps) rest)

-- what a frame gives
abbrev pub frame_data : Partial → Option Data
frame_data (frame.List l) = list_begun (map data_of l.values.items) (read_each any_data (items_left l))
frame_data (frame.Map m) = map_begun (map pair_of m.pairs.items) (read_pairs KeyShape.text any_data (entries_left m))

-- what a frame gives if the node that is being read gives this
abbrev pub frame_after : Partial → Option Data → Option Data
frame_after (frame.List l) node = list_begun (map data_of l.values.items) (option_and_then (λ d. with_front d (read_each any_data (items_left l))) node)
frame_after (frame.Map m) node =
    map_begun (map pair_of m.pairs.items) (option_and_then (λ d. with_front (data_of m.key, d) (read_pairs KeyShape.text any_data (entries_left m))) node)

-- what was read of a frame
abbrev pub done_of : Partial → Data
done_of (frame.List l) = Data.sequence (values_of (map data_of l.values.items))
done_of (frame.Map m) = Data.mapping (pairs_of (map pair_of m.pairs.items))

-- all that is left of a frame is text
abbrev pub frame_is_text : Partial → Bool
frame_is_text (frame.List l) = are_text (items_left l)
frame_is_text (frame.Map m) = entries_are_text (entries_left m)

-- how many lists and maps are left of a frame
abbrev pub frame_size : Partial → ℕ
frame_size (frame.List l) = list_size (items_left l)
frame_size (frame.Map m) = entries_size (entries_left m)

-- the frame is all of the node
pub record Begins (l : Partial) (t : Tree) : Type 0 where
  pub value : any_data t ≡ frame_data l
  pub text : frame_is_text l ≡ false → is_text t ≡ false
  pub size : suc (frame_size l) ≤ tree_size t

-- a leaf was read, or the frame is all of the node
abbrev pub Visits : Result Visited ReadError → Tree → Type 0
Visits (Ok (Leaf d)) t = any_data t ≡ Some (data_of d)
Visits (Ok (Inner l)) t = Begins l t
Visits (Err e) t = ReadRejects (is_text t) e (any_data t)

-- after some leaves a further frame begins
pub record Enters (inner old new : Partial) : Type 0 where
  pub value : frame_data old ≡ frame_after new (frame_data inner)
  pub inner_text : frame_is_text inner ≡ false → frame_is_text old ≡ false
  pub text : frame_is_text new ≡ false → frame_is_text old ≡ false
  pub size : suc (frame_size inner + frame_size new) ≤ frame_size old

-- a further frame begins, or all is read
abbrev pub Advances : Result (Option Partial) ReadError → Partial → Partial → Type 0
Advances (Ok (Some inner)) old new = Enters inner old new
Advances (Ok None) old new = frame_data old ≡ Some (done_of new)
Advances (Err e) old new = ReadRejects (frame_is_text old) e (frame_data old)

-- the node that was being read is added
pub record Extends (node : Data) (old new : Partial) : Type 0 where
  pub value : frame_after old (Some node) ≡ frame_data new
  pub text : frame_is_text old ≡ frame_is_text new
  pub size : frame_size old ≡ frame_size new
