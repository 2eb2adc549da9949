-- What each step of the format reads, and where the format is then.
use Rattle.std.specs.Prelude.{◌≡◌, ◌⊎◌, ◌↔◌, ℕ, suc, ◌<◌, ◌≤◌, ⊤, Bool, true, false, not, ◌&&◌, List, [], length, HoldsAt, take, drop, slice_get, Option, Some, None, option_map, option_and_then, IsSome, Result, Ok, Err, cond}
use Rattle.std.specs.Float.{Float, Format, binary32, binary64}
use Rattle.std.specs.Float.Parse.{parse_float}
use Rattle.qs_spec.specs.Leaf.Leaf.{NoValue, Null, Text}
use Rattle.qs_spec.specs.Tree.{Tree, Entries}
use Rattle.qs_spec.specs.Tree.Tree.{leaf, sequence, mapping, uninitialized}
use Rattle.qs_spec.specs.Node.{IsFull, items}
use Rattle.qs_spec.specs.Data as d
use Rattle.qs_spec.specs.Shape as s
use Rattle.qs_tree.specs.tree.Views.{tree_of, entry_list}
use Rattle.qs_data.specs.read.Entries.{node_entries}
use Rattle.qs_data.specs.read.Items.{first_item}
use Rattle.qs_data.specs.read.Reads.{reads}
use Rattle.qs_data.specs.read.TreeText.{is_text}
use Rattle.qs_data.specs.read.internal.ReadError.{ReadGives, ReadIsCustom, ReadRejects}
use Rattle.qs_data.specs.declared.read.error.ReadError.{ReadError}
use Rattle.serde.specs.Event.{Event, boolean, signed, unsigned, single, double, character, text, octets, nothing, seq_begins, seq_ends, map_begins, map_ends, key_begins, struct_begins}
use Rattle.serde.specs.declared.name.Name.{Name}
use Rattle.serde.specs.declared.format.Kind.{Kind}
use Rattle.serde.specs.declared.format.Kind.TheVariants as kind
use Rattle.qs_serde.specs.Nodes.{IsEntry, is_list, is_map, key_tree, listed, pairs_in}
use Rattle.qs_serde.specs.Lookups.{LooksUp}
use Rattle.qs_serde.specs.Places.{IsAt, count_of, kind_of, opens, scalar_at, tree_at, value_part, whole_part}
use Rattle.qs_serde.specs.Tries.{asks_kind, is_marked, picked_part, settled, tried_at_name, tried_back}
use Rattle.qs_serde.specs.declared.reading.node.Node.{Node}
use Rattle.qs_serde.specs.declared.reading.node.Part.{Part}
use Rattle.qs_serde.specs.declared.reading.node.Part.TheVariants as p
use Rattle.qs_serde.specs.declared.reading.frame.Frame.{Frame}
use Rattle.qs_serde.specs.declared.reading.frame.FrameKind.{FrameKind}
use Rattle.qs_serde.specs.declared.reading.frame.FrameKind.TheVariants as k
use Rattle.qs_serde.specs.declared.reading.format.Asked.TheVariants as a
use Rattle.qs_serde.specs.declared.reading.format.TreeFormat.{TreeFormat}
use Rattle.qs_serde.specs.declared.reading.format.Mark.{Mark}

-- A format that doesn't look for the first error, such as each that `TreeFormat::new` makes: fields are in the order of the tree, and
-- numbers are the tree's. Each step keeps it so.
abbrev pub IsPlain : TreeFormat → Type 0
IsPlain f = f.search.in_order ≡ false

-- A step keeps how the tree is read. A format that is where its lists and maps lead is so afterwards, too, and one that isn't used for a variant of
-- an untagged enum isn't so afterwards.
abbrev pub Keeps : TreeFormat → TreeFormat → Type 0
Keeps old new = (new.reader ≡ old.reader) × (new.search ≡ old.search) × (IsAt old → IsAt new) × (old.is_tried ≡ false → new.is_tried ≡ false)

-- the value is next after its key
abbrev pub part_after : Bool → Part → Part
part_after is_tried p.Value = p.Value
part_after is_tried p.Held = p.Held
part_after is_tried p.NoValue = p.NoValue
part_after is_tried p.Key = value_part is_tried
part_after is_tried p.Whole = p.Whole
part_after is_tried p.Nothing = p.Nothing

-- what was next was taken, and nothing else changed
abbrev pub Takes : TreeFormat → TreeFormat → Type 0
Takes old new = new ≡ record old { part = part_after old.is_tried old.part }

-- The same of a number. It is noted for its error, and a format that looks for the first error counts numbers.
abbrev pub Notes : TreeFormat → TreeFormat → Type 0
Notes old new = new ≡ record old { part = part_after old.is_tried old.part; asked = new.asked; search = record old.search { numbers = new.search.numbers } }

-- the same of a text that names a variant
abbrev pub NotesName : TreeFormat → TreeFormat → Type 0
NotesName old new = new ≡ record old { part = part_after (tried_at_name old) old.part; asked = new.asked; clues = new.clues; is_tried = tried_at_name old }

-- the shape of a scalar reads this from what was next
abbrev pub Is : TreeFormat → s.Shape → d.Data → Type 0
Is old shape datum = reads old.reader.reject_duplicates shape (scalar_at old) ≡ Some datum

-- what a step returns that reads what was next by the shape of a scalar
abbrev pub Returns : {X : Type 0} → (X → d.Data) → TreeFormat → s.Shape → Result X ReadError → Type 0
Returns make old shape result = ReadGives make (is_text (scalar_at old)) result (reads old.reader.reject_duplicates shape (scalar_at old))

-- the text of what was next, and the float that it writes
abbrev pub text_in : d.Data → Option (List ℕ)
text_in (d.text t) = Some t
text_in _ = None

abbrev pub next_text : TreeFormat → Option (List ℕ)
next_text old = option_and_then text_in (reads old.reader.reject_duplicates s.Shape.text (scalar_at old))

abbrev pub next_float : Format → TreeFormat → Option Float
next_float format old = option_and_then (parse_float format) (next_text old)

-- What a step returns that parses the text of what was next by a type's `from_str`.
abbrev pub ReturnsParsed : {T E : Type 0} → (List ℕ → Result T E → Type 0) → TreeFormat → Result T ReadError → Type 0
ReturnsParsed from_str old (Ok v) = (t : List ℕ) × (next_text old ≡ Some t) × from_str t (Ok v)
ReturnsParsed {E = E} from_str old (Err e) =
    ReadRejects (is_text (scalar_at old)) e (next_text old) ⊎ (ReadIsCustom e × ((t : List ℕ) × (cause : E) × (next_text old ≡ Some t) × from_str t (Err cause)))

-- Whether a unit is next: no value, or an empty one, but for a variant of an untagged enum; or whatever is under the name of a unit variant.
abbrev pub is_unit : Part → Tree → Bool
is_unit p.Value (leaf NoValue) = true
is_unit p.Value (leaf Null) = true
is_unit p.Value _ = false
is_unit p.Held t = true
is_unit p.NoValue t = true
is_unit p.Key t = false
is_unit p.Whole (leaf NoValue) = true
is_unit p.Whole _ = false
is_unit p.Nothing t = true

abbrev pub next_unit : TreeFormat → Bool
next_unit f = is_unit f.part (tree_of f.node.now)

-- the kind of what is next
abbrev pub kind_of_node : Tree → Option Kind
kind_of_node (leaf NoValue) = Some kind.Unit
kind_of_node (leaf Null) = Some kind.Unit
kind_of_node (leaf (Text t mark)) = Some kind.Str
kind_of_node (sequence xs) = Some kind.Seq
kind_of_node (mapping es) = Some kind.Map
kind_of_node uninitialized = None

abbrev pub next_kind : TreeFormat → Option Kind
next_kind f = kind_of_node (tree_at f)

-- the node that is next, if one is
abbrev pub node_at_part : Part → Tree → Option Tree
node_at_part p.Value t = Some t
node_at_part p.Held t = Some t
node_at_part p.NoValue t = Some t
node_at_part p.Key t = None
node_at_part p.Whole t = Some t
node_at_part p.Nothing t = None

abbrev pub next_node : TreeFormat → Option Tree
next_node f = node_at_part f.part (tree_of f.node.now)

-- whether all of a node has to be read
abbrev pub is_whole : Part → Bool
is_whole p.Whole = true
is_whole _ = false

-- The list of what is next: a text, or nothing, is no list for a variant of an untagged enum.
abbrev pub items_at : Bool → Tree → Option (List (Option Tree))
items_at whole t = cond whole (cond (is_list t) (items t) None) (items t)

abbrev pub next_items : TreeFormat → Option (List (Option Tree))
next_items f = option_and_then (items_at (is_whole f.part)) (next_node f)

-- The map of what is next: a text, nothing or a list is no map for such a variant. If the mark was made just before, that is tested later.
abbrev pub entries_at : Bool → Tree → Option Entries
entries_at whole t = cond whole (cond (is_map t) (node_entries t) None) (node_entries t)

abbrev pub next_entries : TreeFormat → Option Entries
next_entries f = option_and_then (entries_at (is_whole f.part && not (is_marked f.asked))) (next_node f)

-- As what kind a struct is begun of a node. A second read may take all items of a list.
abbrev pub list_kind : Bool → FrameKind
list_kind is_short = cond is_short k.Items k.Places

abbrev pub whole_struct : Tree → Option FrameKind
whole_struct t = cond (is_list t) (Some k.Items) (cond (is_map t) (Some k.Fields) None)

abbrev pub part_struct : Bool → Tree → Option FrameKind
part_struct is_short (leaf NoValue) = Some k.Fields
part_struct is_short (leaf Null) = Some k.Fields
part_struct is_short (leaf (Text t mark)) = None
part_struct is_short (sequence xs) = Some (list_kind is_short)
part_struct is_short (mapping es) = Some k.Fields
part_struct is_short uninitialized = None

abbrev pub kind_of_struct : Bool → Bool → Tree → Option FrameKind
kind_of_struct whole is_short t = cond whole (whole_struct t) (part_struct is_short t)

-- the kind of the struct that is next
abbrev pub next_struct : TreeFormat → Option FrameKind
next_struct f = option_and_then (kind_of_struct (is_whole f.part) f.search.is_short) (next_node f)

-- the node has a list
abbrev pub HasItems : Tree → Type 0
HasItems t = items t ≡ Some (listed t)

-- the node has a map, or the fields of a struct, that are read as this kind
abbrev pub HasParts : FrameKind → Tree → Type 0
HasParts k.Items t = HasItems t
HasParts k.Places t = HasItems t
HasParts k.Fields t = option_map entry_list (node_entries t) ≡ Some (pairs_in t)
HasParts k.Map t = option_map entry_list (node_entries t) ≡ Some (pairs_in t)

-- The list or the map of the node that is next was begun as this kind, and is before its first item or entry.
pub record Begins (old : TreeFormat) (kind : FrameKind) (new : TreeFormat) : Type 0 where
  pub frame : new.frame ≡ Some (record { kind = kind; next = 0; field = 0 })
  pub around : new.around.items ≡ opens old
  pub top : new.top ≡ old.node
  pub node : new.node ≡ old.node
  pub part : new.part ≡ old.part
  pub tried : new.is_tried ≡ old.is_tried
  pub keeps : Keeps old new

-- The innermost list or map was left: the one around it, if there is one, is the innermost again, and what was left is its current node.
abbrev pub Leaves : TreeFormat → TreeFormat → Type 0
Leaves old new = (old.around.items ≡ opens new) × (IsSome new.frame ↔ (0 < length old.around.items)) × (new.node ≡ old.top) × Keeps old new

-- The format went to this index of the innermost list or map, and the next index is next. The lists and maps around it are as they were.
pub record Moves (i : ℕ) (old new : TreeFormat) : Type 0 where
  pub count : count_of new ≡ suc i
  pub kind : kind_of new ≡ kind_of old
  pub around : new.around.items ≡ old.around.items
  pub top : new.top ≡ old.top
  pub tried : new.is_tried ≡ old.is_tried
  pub keeps : Keeps old new

-- no entry of the innermost map is left
abbrev pub HasNoEntry : TreeFormat → Type 0
HasNoEntry old = (old.frame ≡ None) ⊎ (slice_get (pairs_in (tree_of old.top.now)) (count_of old) ≡ None)

-- the format went to the entry at this index of the innermost map: this is its key, and its value is next
pub record EntryComes (i : ℕ) (key : Node) (old new : TreeFormat) : Type 0 where
  pub entry : IsEntry (slice_get (pairs_in (tree_of old.top.now)) i) key (tree_of new.node.now)
  pub moves : Moves i old new

-- the next item of the innermost list, if there is one; none if a map has another key there
abbrev pub next_item_of : TreeFormat → Option (Option Tree)
next_item_of f = first_item (drop (count_of f) (listed (tree_of f.top.now)))

-- no item of the innermost list is left
abbrev pub HasNoItem : TreeFormat → Type 0
HasNoItem old = first_item (drop (count_of old) (listed (tree_of old.top.now))) ≡ Some None

-- A map ends if no entry is left. But the map of an enum ends after its variant, and a struct in a sequence after its last field.
abbrev pub MayEndEarly : Option FrameKind → Type 0
MayEndEarly (Some k.Fields) = ⊥
MayEndEarly _ = ⊤

-- what a step gave
abbrev pub Reads : TreeFormat → Event → TreeFormat → Type 0
Reads old (boolean b) new = Takes old new × Is old s.Shape.boolean (d.boolean b)
Reads old (signed z) new = Notes old new × (IsPlain old → Is old (s.Shape.signed 128) (d.signed z))
Reads old (unsigned m) new = Notes old new × (IsPlain old → Is old (s.Shape.unsigned 128) (d.unsigned m))
Reads old (single x) new = Takes old new × (next_float binary32 old ≡ Some x)
Reads old (double x) new = Takes old new × (next_float binary64 old ≡ Some x)
Reads old (character c) new = Takes old new × Is old s.Shape.character (d.character c)
Reads old (text t) new = Takes old new × Is old s.Shape.text (d.text t)
Reads old (octets t) new = Takes old new × Is old s.Shape.bytes (d.bytes t)
Reads old nothing new = (new ≡ old) × (next_unit old ≡ true)
Reads old (seq_begins len) new = Begins old k.Items new × (next_items old ≡ Some (listed (tree_of old.node.now)))
Reads old seq_ends new = Leaves old new
Reads old (map_begins len) new = (kind : FrameKind) × Begins old kind new × HasParts kind (tree_of old.node.now) × (next_node old ≡ Some (tree_of old.node.now))
Reads old map_ends new = Leaves old new × (IsPlain old → HasNoEntry old ⊎ MayEndEarly (kind_of old))
Reads old key_begins new = (new.part ≡ p.Key) × ((key : Node) × EntryComes (count_of old) key old new)
Reads old _ new = ⊤

-- a struct was begun, as the kind that is next
abbrev pub BeginsStruct : TreeFormat → TreeFormat → Type 0
BeginsStruct old new = (kind : FrameKind) × Begins old kind new × (next_struct old ≡ Some kind)

-- a map was begun, as a list of entries
abbrev pub BeginsMap : TreeFormat → TreeFormat → Type 0
BeginsMap old new = Begins old k.Map new × HasParts k.Map (tree_of old.node.now) × (next_node old ≡ Some (tree_of old.node.now))

-- an empty value is `Some` of what is read from no value
abbrev pub Empties : TreeFormat → TreeFormat → Type 0
Empties old new = (tree_at old ≡ leaf Null) × (is_whole old.part ≡ false) × (new ≡ record old { part = p.NoValue })

abbrev pub IsEmptyText : TreeFormat → Type 0
IsEmptyText old = (tree_at old ≡ leaf Null) × (is_whole old.part ≡ true)

-- `take_none` found a value: it is next as it is, or no value is in place of an empty one. An empty value is a text for a variant of an untagged enum.
abbrev pub LooksInside : TreeFormat → TreeFormat → Type 0
LooksInside old looked = ((looked ≡ old) × (IsFull (tree_at old) ⊎ IsEmptyText old)) ⊎ Empties old looked

-- the format only looked at the kind of what is next
abbrev pub Looks : TreeFormat → TreeFormat → Type 0
Looks old new = (new ≡ old) ⊎ (new ≡ record old { asked = a.Kind })

-- the next item of the innermost list is next
pub record Comes (old new : TreeFormat) : Type 0 where
  pub item : first_item (drop (count_of old) (listed (tree_of old.top.now))) ≡ Some (Some (tree_of new.node.now))
  pub part : new.part ≡ value_part old.is_tried
  pub moves : Moves (count_of old) old new

abbrev pub Stays : TreeFormat → TreeFormat → Type 0
Stays old new = Looks old new ⊎ Empties old new ⊎ Comes old new

-- what serde's `begin_struct` says: the struct was begun, after a look at it or none
abbrev pub BeginsAfterLook : TreeFormat → Bool → TreeFormat → Type 0
BeginsAfterLook old is_sequence new = Reads old (struct_begins is_sequence) new ⊎ ((looked : TreeFormat) × Stays old looked × Reads looked (struct_begins is_sequence) new)

-- the format went to the entry at an index of the innermost map: its key was looked up among the names, and this part of its value is next
pub record EntryIs (i : ℕ) (names : List Name) (at : ℕ) (q : Part) (old new : TreeFormat) : Type 0 where
  pub part : new.part ≡ q
  pub key : LooksUp (key_tree (slice_get (pairs_in (tree_of old.top.now)) i)) names at
  pub value : option_map (λ e. e.1) (slice_get (pairs_in (tree_of old.top.now)) i) ≡ Some (tree_of new.node.now)
  pub moves : Moves i old new

-- the field of the next item of a list that is read as a struct
abbrev pub next_field : Option Frame → ℕ
next_field None = 0
next_field (Some frame) = frame.field

abbrev pub field_of : TreeFormat → ℕ
field_of f = next_field f.frame

-- the first name, from an index on, that isn't skipped
pub record IsNextName (names : List Name) (from at : ℕ) : Type 0 where
  pub after : from ≤ at
  pub here : HoldsAt (λ (n : Name). n.skipped ≡ false) names at
  pub first : (i : ℕ) → from ≤ i → i < at → HoldsAt (λ (n : Name). n.skipped ≡ true) names i

-- no name, from an index on, isn't skipped
abbrev pub HasNoName : List Name → ℕ → Type 0
HasNoName names from = (i : ℕ) → from ≤ i → i < length names → HoldsAt (λ (n : Name). n.skipped ≡ true) names i

-- the next item of a list that is read as a struct is next, and is the next field
pub record FieldComes (names : List Name) (at : ℕ) (old new : TreeFormat) : Type 0 where
  pub comes : Comes old new
  pub field : IsNextName names (field_of old) at
  pub next : field_of new ≡ suc at

-- The next key was looked up, or the next item is the next field. A format that looks for the first error may go to another entry.
abbrev pub PicksAt : Option FrameKind → TreeFormat → List Name → ℕ → TreeFormat → Type 0
PicksAt (Some k.Fields) old names at new = (i : ℕ) × EntryIs i names at (value_part old.is_tried) old new × (IsPlain old → i ≡ count_of old)
PicksAt (Some k.Places) old names at new = FieldComes names at old new
PicksAt _ old names at new = EntryIs (count_of old) names at (picked_part names old) (settled names old) new

-- a key was picked, or the text that was next was looked up
abbrev pub Picks : TreeFormat → Bool → List Name → ℕ → TreeFormat → Type 0
Picks old true names at new = PicksAt (kind_of old) old names at new
Picks old false names at new = LooksUp (scalar_at old) names at × NotesName old new

-- what the end of a list or a map says of the names: no field lacks an item; no entry is left, but for the map of an enum after its variant
abbrev pub EndsAt : Option FrameKind → TreeFormat → List Name → Type 0
EndsAt (Some k.Places) old names = HasNoName names (field_of old)
EndsAt _ old names = ((names ≡ []) × ((settled names old).is_tried ≡ false)) ⊎ HasNoEntry old

-- the mark was made at this place
abbrev pub IsMark : Mark → TreeFormat → Type 0
IsMark mark f =
    (mark.depth ≡ length f.around.items) × (mark.frame ≡ f.frame) × (mark.top ≡ f.top) × (mark.node ≡ f.node) × (mark.part ≡ f.part)
    × (mark.is_tried ≡ f.is_tried) × (mark.is_try ≡ asks_kind f.asked)

-- The lists and maps around the one that was the innermost at the mark are as they were.
abbrev pub IsAbove : TreeFormat → TreeFormat → Type 0
IsAbove marked old = (take (length marked.around.items) old.around.items ≡ marked.around.items) × (old.reader ≡ marked.reader)

-- the format is where it was at the mark, and a variant of an untagged enum is tried there or isn't
pub record IsBack (is_tried : Bool) (marked new : TreeFormat) : Type 0 where
  pub frame : new.frame ≡ marked.frame
  pub around : new.around.items ≡ marked.around.items
  pub top : new.top ≡ marked.top
  pub node : new.node ≡ marked.node
  pub part : new.part ≡ cond is_tried (whole_part marked.part) marked.part
  pub tried : new.is_tried ≡ is_tried
  pub reader : new.reader ≡ marked.reader
  pub next : tree_at new ≡ tree_at marked
  pub place : IsAt marked → IsAt new

-- a rewind to the mark comes back to where it was made
abbrev pub ComesBack : Mark → TreeFormat → TreeFormat → Type 0
ComesBack mark old new = (marked : TreeFormat) → IsMark mark marked → IsAbove marked old → IsBack (tried_back mark old) marked new
