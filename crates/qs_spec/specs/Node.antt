-- What is read from a node: its last text, its items, the value at a key, and the values of a name.
use Rattle.std.specs.Prelude.{ℕ, ◌+◌, Bool, true, false, ◌&&◌, ◌||◌, ◌==◌, nat_lt, cond, List, [], ◌∷◌, Option, Some, None, if◌then◌else◌, ⊤}
use Rattle.std.specs.Str.{bytes_eq, is_utf8}
use Rattle.qs_spec.specs.Segment.{Segment, segment_text, is_same_segment}
use Rattle.qs_spec.specs.Segment.Segment.{Int, Str}
use Rattle.qs_spec.specs.Leaf.{leaf_text}
use Rattle.qs_spec.specs.Leaf.Leaf.{NoValue, Null, Text}
use Rattle.qs_spec.specs.Tree.{Tree, Items, Entries}
use Rattle.qs_spec.specs.Tree.Tree.{leaf, sequence, mapping, uninitialized}
use Rattle.qs_spec.specs.Tree.Items.{no_items, item}
use Rattle.qs_spec.specs.Tree.Entries.{no_entries, entry}
use Rattle.qs_spec.specs.Shape.{Fields, UnknownKeys, are_ignored, is_field_name}

-- the bytes of a leaf in a sequence; Null and NoValue count as the empty text
abbrev pub item_text : Tree → Option (List ℕ)
item_text (leaf l) = Some (leaf_text l)
item_text _ = None

-- the bytes of the last item; several are rejected under `reject_duplicates`
abbrev pub last_item : Bool → Items → Option (List ℕ)
last_item reject_duplicates no_items = None
last_item reject_duplicates (item t no_items) = item_text t
last_item reject_duplicates (item t (item u xs)) = cond reject_duplicates None (last_item reject_duplicates (item u xs))

-- the last text of a node: its own if it is a text, or the text of a sequence's last item
abbrev pub last_text : Bool → Tree → Option (List ℕ)
last_text reject_duplicates (leaf (Text bytes escaped)) = Some bytes
last_text reject_duplicates (sequence xs) = last_item reject_duplicates xs
last_text reject_duplicates _ = None

-- there is a pair
abbrev pub IsThere : Tree → Type 0
IsThere uninitialized = ⊥
IsThere _ = ⊤

-- there is a pair, and its value isn't empty
abbrev pub IsFull : Tree → Type 0
IsFull uninitialized = ⊥
IsFull (leaf NoValue) = ⊥
IsFull (leaf Null) = ⊥
IsFull _ = ⊤

-- the key is this index, which is below 4,294,967,295
abbrev pub is_place : ℕ → Segment → Bool
is_place i (Int n) = n == i && nat_lt n 4294967295
is_place i (Str bytes) = false

-- whether a key is an integer
abbrev pub is_int : Segment → Bool
is_int (Int n) = true
is_int (Str bytes) = false

-- all keys are integers
abbrev pub are_ints : Entries → Bool
are_ints no_entries = true
are_ints (entry k escaped t es) = is_int k && are_ints es

-- each item at its own index; an entry with another key is no item
abbrev pub placed : ℕ → Entries → List (Option Tree)
placed i no_entries = []
placed i (entry k escaped t es) = cond (is_place i k) (Some t) None ∷ placed (i + 1) es

-- the items of a sequence
abbrev pub sequence_items : Items → List (Option Tree)
sequence_items no_items = []
sequence_items (item t xs) = Some t ∷ sequence_items xs

-- the items of a node, if it has a list of them
abbrev pub items : Tree → Option (List (Option Tree))
items (leaf NoValue) = Some []
items (leaf Null) = Some []
items (leaf (Text bytes escaped)) = Some (Some (leaf (Text bytes escaped)) ∷ [])
items (sequence xs) = Some (sequence_items xs)
items (mapping es) = cond (are_ints es) (Some (placed 0 es)) None
items uninitialized = None

-- the value at a key
abbrev pub value_at_key : Segment → Entries → Option Tree
value_at_key k no_entries = None
value_at_key k (entry j escaped t es) = if is_same_segment k j then Some t else value_at_key k es

-- the values whose key has the text
abbrev pub found : List ℕ → Entries → List Tree
found name no_entries = []
found name (entry k escaped t es) = cond (bytes_eq (segment_text k) name) (t ∷ found name es) (found name es)

-- the text of every key passes the test
abbrev pub all_keys : (List ℕ → Bool) → Entries → Bool
all_keys test no_entries = true
all_keys test (entry k escaped t es) = test (segment_text k) && all_keys test es

-- every key is UTF-8
abbrev pub keys_are_text : Entries → Bool
keys_are_text = all_keys is_utf8

-- every key is a field's name
abbrev pub keys_are_names : Fields → Entries → Bool
keys_are_names fs = all_keys (λ key. is_field_name key fs)

-- every key is UTF-8, and a field's name if unknown keys are rejected
abbrev pub keys_are_allowed : UnknownKeys → Fields → Entries → Bool
keys_are_allowed unknown fs es = keys_are_text es && (keys_are_names fs es || are_ignored unknown)

-- a leaf as the map from the empty text to it
abbrev pub under_empty : Tree → Entries
under_empty t = entry (Str []) false t no_entries

-- what a struct variant reads: a text counts as a map
abbrev pub as_map : Tree → Tree
as_map (leaf (Text bytes escaped)) = mapping (under_empty (leaf (Text bytes escaped)))
as_map t = t
