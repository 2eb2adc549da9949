-- The parts of a node, each with the shape that it is read by, and the path to a part.
use Rattle.std.specs.Prelude.{◌≡◌, ℕ, zero, suc, Bool, false, List, [], ◌∷◌, drop, Option, Some, None}
use Rattle.qs_spec.specs.Leaf.Leaf.{NoValue, Null}
use Rattle.qs_spec.specs.Node.{IsFull, as_map, found, items, sequence_items}
use Rattle.qs_spec.specs.Segment.{Segment, segment_text}
use Rattle.qs_spec.specs.Segment.Segment.{Int, Str}
use Rattle.qs_spec.specs.Shape.{KeyShape, Shape, Shapes, no_shapes, one_shape, Fields, Field, no_fields, one_field, Variant, Variants, VariantKind, newtype_kind, tuple_kind, struct_kind, UnknownKeys, is_option}
use Rattle.qs_spec.specs.Tree.{Tree, Items, Entries}
use Rattle.qs_spec.specs.Tree.Tree.{leaf, sequence, mapping, uninitialized}
use Rattle.qs_spec.specs.Tree.Entries.{no_entries, entry}
use Rattle.qs_data.specs.read.Entries.{node_entries}
use Rattle.qs_data.specs.read.Items.{first_item}
use Rattle.qs_data.specs.shape.Variants.{variant_named}

-- an item of a list; it is missing if another key stands at its index
pub data IsItem (s : Shape) (xs : List (Option Tree)) : Segment → Shape → Tree → Type 0 where
  item : {i : ℕ} {n : Tree} → first_item (drop i xs) ≡ Some (Some n) → IsItem s xs (Int i) s n
  missing_item : {i : ℕ} → first_item (drop i xs) ≡ None → IsItem s xs (Int i) s uninitialized

-- the shape at an index of a tuple
abbrev pub shape_at : ℕ → Shapes → Option Shape
shape_at i no_shapes = None
shape_at zero (one_shape s ss) = Some s
shape_at (suc i) (one_shape s ss) = shape_at i ss

-- an item of a tuple; it is missing if another key stands at its index, or if there are fewer items
pub data IsTupleItem (ss : Shapes) (xs : List (Option Tree)) : Segment → Shape → Tree → Type 0 where
  item : {i : ℕ} {s : Shape} {n : Tree} → shape_at i ss ≡ Some s → first_item (drop i xs) ≡ Some (Some n) → IsTupleItem ss xs (Int i) s n
  missing_item : {i : ℕ} {s : Shape} → shape_at i ss ≡ Some s → first_item (drop i xs) ≡ None → IsTupleItem ss xs (Int i) s uninitialized
  item_beyond : {i : ℕ} {s : Shape} → shape_at i ss ≡ Some s → first_item (drop i xs) ≡ Some None → IsTupleItem ss xs (Int i) s uninitialized

-- one of the fields has this name, this shape, and may be left out or not
pub data HasField (name : List ℕ) (s : Shape) (optional : Bool) : Fields → Type 0 where
  first : {fs : Fields} → HasField name s optional (one_field name s optional fs)
  later : {m : List ℕ} {t : Shape} {o : Bool} {fs : Fields} → HasField name s optional fs → HasField name s optional (one_field m t o fs)

-- a field of this name and shape: the one value of its name among the keys; without such a key it is missing, if it is required
pub data IsNamed (name : List ℕ) (s : Shape) (optional : Bool) (es : Entries) : Segment → Shape → Tree → Type 0 where
  field : {n : Tree} → found name es ≡ n ∷ [] → IsNamed name s optional es (Str name) s n
  missing_field : optional ≡ false → is_option s ≡ false → found name es ≡ [] → IsNamed name s optional es (Str name) s uninitialized

-- one of the fields, among the keys of a map
pub data IsFieldOf (fs : Fields) (es : Entries) : Segment → Shape → Tree → Type 0 where
  named : {name : List ℕ} {s part : Shape} {optional : Bool} {key : Segment} {n : Tree} → HasField name s optional fs → IsNamed name s optional es key part n → IsFieldOf fs es key part n

-- the keys that fields are looked up among; a node without a value has none
abbrev pub field_keys : Tree → Option Entries
field_keys (leaf NoValue) = Some no_entries
field_keys (leaf Null) = Some no_entries
field_keys (mapping es) = Some es
field_keys _ = None

-- the field at an index of a struct
abbrev pub field_at : ℕ → Fields → Option Field
field_at i no_fields = None
field_at zero (one_field name s optional fs) = Some (name, s, optional)
field_at (suc i) (one_field name s optional fs) = field_at i fs

-- a field by its index in a sequence; without an item there it is missing, if it is required
pub data IsPlaced (fs : Fields) (xs : List (Option Tree)) : Segment → Shape → Tree → Type 0 where
  placed_field : {i : ℕ} {name : List ℕ} {s : Shape} {optional : Bool} {n : Tree} → field_at i fs ≡ Some (name, s, optional) → first_item (drop i xs) ≡ Some (Some n) → IsPlaced fs xs (Int i) s n
  field_beyond : {i : ℕ} {name : List ℕ} {s : Shape} → field_at i fs ≡ Some (name, s, false) → first_item (drop i xs) ≡ Some None → IsPlaced fs xs (Int i) s uninitialized

-- one of the entries
pub data HasEntry (key : Segment) (n : Tree) : Entries → Type 0 where
  first : {escaped : Bool} {es : Entries} → HasEntry key n (entry key escaped n es)
  later : {k : Segment} {escaped : Bool} {m : Tree} {es : Entries} → HasEntry key n es → HasEntry key n (entry k escaped m es)

-- a value of a map
pub data IsValue (s : Shape) (es : Entries) : Segment → Shape → Tree → Type 0 where
  value : {key : Segment} {n : Tree} → HasEntry key n es → IsValue s es key s n

-- what a variant holds, from the value under its name: a value, a tuple, or fields, for which a text counts as a map
pub data IsHeld : VariantKind → Tree → Shape → Tree → Type 0 where
  held_value : {s : Shape} {n : Tree} → IsHeld (newtype_kind s) n s n
  held_tuple : {ss : Shapes} {n : Tree} → IsHeld (tuple_kind ss) n (Shape.tuple ss) n
  held_fields : {u : UnknownKeys} {fs : Fields} {n : Tree} → IsHeld (struct_kind u fs) n (Shape.struct u fs) (as_map n)

-- The path leads from a node and the shape that reads it to a part and its shape.
pub data Leads : List Segment → Shape → Tree → Shape → Tree → Type 0 where
  here : {s : Shape} {n : Tree} → Leads [] s n s n
  in_null : {path : List Segment} {s part : Shape} {node : Tree} → Leads path s (leaf NoValue) part node → Leads path (Shape.option s) (leaf Null) part node
  in_full : {path : List Segment} {s part : Shape} {n node : Tree} → IsFull n → Leads path s n part node → Leads path (Shape.option s) n part node
  in_newtype : {path : List Segment} {s part : Shape} {n node : Tree} → Leads path s n part node → Leads path (Shape.newtype s) n part node
  in_item : {key : Segment} {path : List Segment} {s t part : Shape} {n m node : Tree} {xs : List (Option Tree)}
      → items n ≡ Some xs → IsItem s xs key t m → Leads path t m part node → Leads (key ∷ path) (Shape.sequence s) n part node
  in_tuple : {key : Segment} {path : List Segment} {ss : Shapes} {t part : Shape} {n m node : Tree} {xs : List (Option Tree)}
      → items n ≡ Some xs → IsTupleItem ss xs key t m → Leads path t m part node → Leads (key ∷ path) (Shape.tuple ss) n part node
  in_field : {key : Segment} {path : List Segment} {u : UnknownKeys} {fs : Fields} {t part : Shape} {n m node : Tree} {es : Entries}
      → field_keys n ≡ Some es → IsFieldOf fs es key t m → Leads path t m part node → Leads (key ∷ path) (Shape.struct u fs) n part node
  in_place : {key : Segment} {path : List Segment} {u : UnknownKeys} {fs : Fields} {t part : Shape} {xs : Items} {m node : Tree}
      → IsPlaced fs (sequence_items xs) key t m → Leads path t m part node → Leads (key ∷ path) (Shape.struct u fs) (sequence xs) part node
  in_value : {key : Segment} {path : List Segment} {k : KeyShape} {s t part : Shape} {n m node : Tree} {es : Entries}
      → node_entries n ≡ Some es → IsValue s es key t m → Leads path t m part node → Leads (key ∷ path) (Shape.mapping k s) n part node
  in_variant : {key : Segment} {path : List Segment} {escaped : Bool} {vs : Variants} {v : Variant} {t part : Shape} {n m node : Tree} {es : Entries}
      → variant_named (segment_text key) vs ≡ Some v → IsHeld v.1 n t m → Leads path t m part node → Leads (key ∷ path) (Shape.enumeration vs) (mapping (entry key escaped n es)) part node
