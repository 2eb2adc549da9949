-- What a shape reads from a node: the table of docs/QUERYSTRINGS.md, and below it one or more rules for each row.
--
-- | shape | node | data |
-- |---|---|---|
-- | Unit | null, no value | unit |
-- | Bool | null, no value | true |
-- | | with a last text, `true` or `false` | that |
-- | U8 to U64 | with a last text, of a number in range | the number |
-- | I8 to I64 | the same, perhaps with a `-` | the number |
-- | Char | a text of one character | the character |
-- | Text | null, no value | the empty text |
-- | | with a last text, in UTF-8 | that |
-- | Bytes | null, no value | no bytes |
-- | | with a last text | its bytes |
-- | Option | no value | none |
-- | | null | some of what the part reads from no value |
-- | | any other | some of what the part reads |
-- | Newtype | any | what the part reads |
-- | Seq | with items, each at its index | what the part reads from every item |
-- | Tuple | with as many items at their indices, or more | what each part reads from its item |
-- | Map | null, no value | no pairs |
-- | | a text | the one pair of the empty key and the text |
-- | | a map | what the key shape and the part read from each pair, in order |
-- | Struct, StrictStruct | null, no value | its fields in a map without keys |
-- | | a map whose keys are allowed | what each field reads from the one value of its name; without one it is left out, or none |
-- | | a sequence | what each field reads from the item at its index; without one it is left out |
-- | Enum | a map | what the variant that the first key names reads from its value |
-- | | a text | the unit variant of that name |
-- | Any | null | the empty text |
-- | | no value | unit |
-- | | a text in UTF-8 | that |
-- | | a sequence, or a map whose keys are all integers | as Seq of Any |
-- | | any other map | as Map of Text to Any |
-- | Ignored | any | unit |
--
-- Nothing else is read, and nothing from the uninitialized tree.
use Rattle.std.specs.Prelude.{◌≡◌, ℕ, Bool, true, false, List, [], ◌∷◌, Option, Some, IsTrue, IsFalse}
use Rattle.std.specs.Str.{is_utf8}
use Rattle.qs_spec.specs.Config.{Config, are_rejected}
use Rattle.qs_spec.specs.Segment.{Segment, segment_text}
use Rattle.qs_spec.specs.Leaf.Leaf.{NoValue, Null, Text}
use Rattle.qs_spec.specs.Tree.{Tree, Items, Entries}
use Rattle.qs_spec.specs.Node.{IsThere, IsFull, last_text, are_ints, items, found, keys_are_allowed, under_empty, as_map}
use Rattle.qs_spec.specs.Data.{Data, Values, no_values, one_value, Pairs, no_pairs, one_pair, Members, no_members, one_member}
use Rattle.qs_spec.specs.Shape.{Shape, Shapes, no_shapes, one_shape, Fields, no_fields, one_field, Variants, one_variant, VariantKind, unit_kind, newtype_kind, tuple_kind, struct_kind, UnknownKeys, KeyShape}
use Rattle.qs_spec.specs.Scalar.{boolean_data, unsigned_data, signed_data, character_data, key_data}

-- one of the variants has this name and this kind
pub data HasVariant (name : List ℕ) (kind : VariantKind) : Variants → Type 0 where
  first : {vs : Variants} → HasVariant name kind (one_variant name kind vs)
  later : {n : List ℕ} {k : VariantKind} {vs : Variants} → HasVariant name kind vs → HasVariant name kind (one_variant n k vs)

mutual
  pub data Reads (reject_duplicates : Bool) : Shape → Tree → Data → Type 0 where
    -- Unit
    unit_null : Reads reject_duplicates Shape.unit (Tree.leaf Null) Data.unit
    unit_no_value : Reads reject_duplicates Shape.unit (Tree.leaf NoValue) Data.unit
    -- Bool
    boolean_null : Reads reject_duplicates Shape.boolean (Tree.leaf Null) (Data.boolean true)
    boolean_no_value : Reads reject_duplicates Shape.boolean (Tree.leaf NoValue) (Data.boolean true)
    boolean : {n : Tree} {d : Data} {t : List ℕ} → last_text reject_duplicates n ≡ Some t → boolean_data t ≡ Some d → Reads reject_duplicates Shape.boolean n d
    -- U8 to U64
    unsigned : {bits : ℕ} {n : Tree} {d : Data} {t : List ℕ} → last_text reject_duplicates n ≡ Some t → unsigned_data bits t ≡ Some d → Reads reject_duplicates (Shape.unsigned bits) n d
    -- I8 to I64
    signed : {bits : ℕ} {n : Tree} {d : Data} {t : List ℕ} → last_text reject_duplicates n ≡ Some t → signed_data bits t ≡ Some d → Reads reject_duplicates (Shape.signed bits) n d
    -- Char
    character : {t : List ℕ} {escaped : Bool} {d : Data} → character_data t ≡ Some d → Reads reject_duplicates Shape.character (Tree.leaf (Text t escaped)) d
    -- Text
    text_null : Reads reject_duplicates Shape.text (Tree.leaf Null) (Data.text [])
    text_no_value : Reads reject_duplicates Shape.text (Tree.leaf NoValue) (Data.text [])
    text : {n : Tree} {t : List ℕ} → last_text reject_duplicates n ≡ Some t → IsTrue (is_utf8 t) → Reads reject_duplicates Shape.text n (Data.text t)
    -- Bytes
    bytes_null : Reads reject_duplicates Shape.bytes (Tree.leaf Null) (Data.bytes [])
    bytes_no_value : Reads reject_duplicates Shape.bytes (Tree.leaf NoValue) (Data.bytes [])
    bytes : {n : Tree} {t : List ℕ} → last_text reject_duplicates n ≡ Some t → Reads reject_duplicates Shape.bytes n (Data.bytes t)
    -- Option
    option_no_value : {s : Shape} → Reads reject_duplicates (Shape.option s) (Tree.leaf NoValue) Data.none
    option_null : {s : Shape} {d : Data} → Reads reject_duplicates s (Tree.leaf NoValue) d → Reads reject_duplicates (Shape.option s) (Tree.leaf Null) (Data.some d)
    option_full : {s : Shape} {n : Tree} {d : Data} → IsFull n → Reads reject_duplicates s n d → Reads reject_duplicates (Shape.option s) n (Data.some d)
    -- Newtype
    newtype : {s : Shape} {n : Tree} {d : Data} → Reads reject_duplicates s n d → Reads reject_duplicates (Shape.newtype s) n (Data.newtype d)
    -- Seq
    sequence : {s : Shape} {n : Tree} {xs : List (Option Tree)} {ds : Values} → items n ≡ Some xs → ReadsEach reject_duplicates s xs ds → Reads reject_duplicates (Shape.sequence s) n (Data.sequence ds)
    -- Tuple
    tuple : {ss : Shapes} {n : Tree} {xs : List (Option Tree)} {ds : Values} → items n ≡ Some xs → ReadsFirst reject_duplicates ss xs ds → Reads reject_duplicates (Shape.tuple ss) n (Data.tuple ds)
    -- Map
    map_null : {k : KeyShape} {s : Shape} → Reads reject_duplicates (Shape.mapping k s) (Tree.leaf Null) (Data.mapping no_pairs)
    map_no_value : {k : KeyShape} {s : Shape} → Reads reject_duplicates (Shape.mapping k s) (Tree.leaf NoValue) (Data.mapping no_pairs)
    map_text : {k : KeyShape} {s : Shape} {t : List ℕ} {escaped : Bool} {ps : Pairs} → ReadsPairs reject_duplicates k s (under_empty (Tree.leaf (Text t escaped))) ps
        → Reads reject_duplicates (Shape.mapping k s) (Tree.leaf (Text t escaped)) (Data.mapping ps)
    map : {k : KeyShape} {s : Shape} {es : Entries} {ps : Pairs} → ReadsPairs reject_duplicates k s es ps → Reads reject_duplicates (Shape.mapping k s) (Tree.mapping es) (Data.mapping ps)
    -- Struct and StrictStruct, as ReadsStruct has it
    struct : {u : UnknownKeys} {fs : Fields} {n : Tree} {ms : Members} → ReadsStruct reject_duplicates u fs n ms → Reads reject_duplicates (Shape.struct u fs) n (Data.struct ms)
    -- Enum
    variant : {vs : Variants} {kind : VariantKind} {key : Segment} {escaped : Bool} {n : Tree} {es : Entries} {d : Data} → HasVariant (segment_text key) kind vs → ReadsVariant reject_duplicates kind (segment_text key) n d
        → Reads reject_duplicates (Shape.enumeration vs) (Tree.mapping (Entries.entry key escaped n es)) d
    unit_variant : {vs : Variants} {name : List ℕ} {escaped : Bool} → HasVariant name unit_kind vs → Reads reject_duplicates (Shape.enumeration vs) (Tree.leaf (Text name escaped)) (Data.unit_variant name)
    -- Any
    any_null : Reads reject_duplicates Shape.any (Tree.leaf Null) (Data.text [])
    any_no_value : Reads reject_duplicates Shape.any (Tree.leaf NoValue) Data.unit
    any_text : {t : List ℕ} {escaped : Bool} → IsTrue (is_utf8 t) → Reads reject_duplicates Shape.any (Tree.leaf (Text t escaped)) (Data.text t)
    any_sequence : {xs : Items} {d : Data} → Reads reject_duplicates (Shape.sequence Shape.any) (Tree.sequence xs) d → Reads reject_duplicates Shape.any (Tree.sequence xs) d
    any_places : {es : Entries} {d : Data} → IsTrue (are_ints es) → Reads reject_duplicates (Shape.sequence Shape.any) (Tree.mapping es) d → Reads reject_duplicates Shape.any (Tree.mapping es) d
    any_map : {es : Entries} {d : Data} → IsFalse (are_ints es) → Reads reject_duplicates (Shape.mapping KeyShape.text Shape.any) (Tree.mapping es) d → Reads reject_duplicates Shape.any (Tree.mapping es) d
    -- Ignored
    ignored : {n : Tree} → IsThere n → Reads reject_duplicates Shape.ignored n Data.unit

  -- every item, each at its own index
  pub data ReadsEach (reject_duplicates : Bool) : Shape → List (Option Tree) → Values → Type 0 where
    each_end : {s : Shape} → ReadsEach reject_duplicates s [] no_values
    each_item : {s : Shape} {n : Tree} {xs : List (Option Tree)} {d : Data} {ds : Values} → Reads reject_duplicates s n d → ReadsEach reject_duplicates s xs ds → ReadsEach reject_duplicates s (Some n ∷ xs) (one_value d ds)

  -- the first items, each by its shape
  pub data ReadsFirst (reject_duplicates : Bool) : Shapes → List (Option Tree) → Values → Type 0 where
    first_end : {xs : List (Option Tree)} → ReadsFirst reject_duplicates no_shapes xs no_values
    first_item : {s : Shape} {ss : Shapes} {n : Tree} {xs : List (Option Tree)} {d : Data} {ds : Values} → Reads reject_duplicates s n d → ReadsFirst reject_duplicates ss xs ds → ReadsFirst reject_duplicates (one_shape s ss) (Some n ∷ xs) (one_value d ds)

  -- the pairs of a map in their order
  pub data ReadsPairs (reject_duplicates : Bool) : KeyShape → Shape → Entries → Pairs → Type 0 where
    pairs_end : {k : KeyShape} {s : Shape} → ReadsPairs reject_duplicates k s Entries.no_entries no_pairs
    pairs_more : {k : KeyShape} {s : Shape} {key : Segment} {escaped : Bool} {n : Tree} {es : Entries} {a d : Data} {ps : Pairs} → key_data k (segment_text key) ≡ Some a → Reads reject_duplicates s n d → ReadsPairs reject_duplicates k s es ps
        → ReadsPairs reject_duplicates k s (Entries.entry key escaped n es) (one_pair a d ps)

  -- the fields of a node: by their names in a map whose keys are allowed, or by their indices in a sequence
  pub data ReadsStruct (reject_duplicates : Bool) : UnknownKeys → Fields → Tree → Members → Type 0 where
    fields_of_null : {u : UnknownKeys} {fs : Fields} {ms : Members} → ReadsNames reject_duplicates fs Entries.no_entries ms → ReadsStruct reject_duplicates u fs (Tree.leaf Null) ms
    fields_of_no_value : {u : UnknownKeys} {fs : Fields} {ms : Members} → ReadsNames reject_duplicates fs Entries.no_entries ms → ReadsStruct reject_duplicates u fs (Tree.leaf NoValue) ms
    fields_by_name : {u : UnknownKeys} {fs : Fields} {es : Entries} {ms : Members} → IsTrue (keys_are_allowed u fs es) → ReadsNames reject_duplicates fs es ms → ReadsStruct reject_duplicates u fs (Tree.mapping es) ms
    fields_by_place : {u : UnknownKeys} {fs : Fields} {xs : Items} {ms : Members} → ReadsPlaces reject_duplicates fs xs ms → ReadsStruct reject_duplicates u fs (Tree.sequence xs) ms

  -- A field is read if exactly one key has its name. If no key has it, the field is left out if it is optional, and otherwise none if
  -- its shape is an option.
  pub data ReadsNames (reject_duplicates : Bool) : Fields → Entries → Members → Type 0 where
    names_end : {es : Entries} → ReadsNames reject_duplicates no_fields es no_members
    name_found : {name : List ℕ} {s : Shape} {optional : Bool} {fs : Fields} {es : Entries} {n : Tree} {d : Data} {ms : Members} → found name es ≡ n ∷ [] → Reads reject_duplicates s n d → ReadsNames reject_duplicates fs es ms
        → ReadsNames reject_duplicates (one_field name s optional fs) es (one_member name d ms)
    name_left_out : {name : List ℕ} {s : Shape} {fs : Fields} {es : Entries} {ms : Members} → found name es ≡ [] → ReadsNames reject_duplicates fs es ms → ReadsNames reject_duplicates (one_field name s true fs) es ms
    name_as_none : {name : List ℕ} {s : Shape} {fs : Fields} {es : Entries} {ms : Members} → found name es ≡ [] → ReadsNames reject_duplicates fs es ms
        → ReadsNames reject_duplicates (one_field name (Shape.option s) false fs) es (one_member name Data.none ms)

  -- A field is read if there is an item at its index. Beyond the end it is left out if it is optional.
  pub data ReadsPlaces (reject_duplicates : Bool) : Fields → Items → Members → Type 0 where
    places_end : {xs : Items} → ReadsPlaces reject_duplicates no_fields xs no_members
    place_found : {name : List ℕ} {s : Shape} {optional : Bool} {fs : Fields} {n : Tree} {xs : Items} {d : Data} {ms : Members} → Reads reject_duplicates s n d → ReadsPlaces reject_duplicates fs xs ms
        → ReadsPlaces reject_duplicates (one_field name s optional fs) (Items.item n xs) (one_member name d ms)
    place_left_out : {name : List ℕ} {s : Shape} {fs : Fields} {ms : Members} → ReadsPlaces reject_duplicates fs Items.no_items ms → ReadsPlaces reject_duplicates (one_field name s true fs) Items.no_items ms

  -- a variant of this kind and name, on the value of its key
  pub data ReadsVariant (reject_duplicates : Bool) : VariantKind → List ℕ → Tree → Data → Type 0 where
    as_unit : {name : List ℕ} {n : Tree} → ReadsVariant reject_duplicates unit_kind name n (Data.unit_variant name)
    as_newtype : {s : Shape} {name : List ℕ} {n : Tree} {d : Data} → Reads reject_duplicates s n d → ReadsVariant reject_duplicates (newtype_kind s) name n (Data.newtype_variant name d)
    as_tuple : {ss : Shapes} {name : List ℕ} {n : Tree} {xs : List (Option Tree)} {ds : Values} → items n ≡ Some xs → ReadsFirst reject_duplicates ss xs ds → ReadsVariant reject_duplicates (tuple_kind ss) name n (Data.tuple_variant name ds)
    as_struct : {u : UnknownKeys} {fs : Fields} {name : List ℕ} {n : Tree} {ms : Members} → ReadsStruct reject_duplicates u fs (as_map n) ms → ReadsVariant reject_duplicates (struct_kind u fs) name n (Data.struct_variant name ms)

-- the same under a configuration
abbrev pub ReadsBy : Config → Shape → Tree → Data → Type 0
ReadsBy config shape tree d = Reads (are_rejected config.duplicates) shape tree d

-- no data is read
abbrev pub ReadsNothing : Config → Shape → Tree → Type 0
ReadsNothing config shape tree = (d : Data) → ReadsBy config shape tree d → ⊥
