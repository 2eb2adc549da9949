-- Reading as a function: it returns the data that Relation.antt relates to a shape and a node.
use Rattle.std.specs.Prelude.{ℕ, ◌+◌, Bool, true, false, cond, List, [], ◌∷◌, Option, Some, None, option_map, option_and_then}
use Rattle.std.specs.Str.{bytes_eq}
use Rattle.qs_spec.specs.Segment.{segment_text}
use Rattle.qs_spec.specs.Leaf.Leaf.{NoValue, Null, Text}
use Rattle.qs_spec.specs.Tree.{Tree, Items, Entries}
use Rattle.qs_spec.specs.Tree.Tree.{leaf, sequence, mapping, uninitialized}
use Rattle.qs_spec.specs.Tree.Items.{no_items, item}
use Rattle.qs_spec.specs.Tree.Entries.{no_entries, entry}
use Rattle.qs_spec.specs.Node.{last_item, is_place, are_ints, items, found, keys_are_allowed, under_empty, as_map}
use Rattle.qs_spec.specs.Config.{Config, are_rejected}
use Rattle.qs_spec.specs.Data.{Data, Values, no_values, one_value, Pairs, no_pairs, one_pair, values_of, pairs_of, members_of, Named}
use Rattle.qs_spec.specs.Shape.{Shape, Shapes, no_shapes, one_shape, Fields, no_fields, one_field, Variants, no_variants, one_variant, VariantKind, unit_kind, newtype_kind, tuple_kind, struct_kind, KeyShape, is_option}
use Rattle.qs_spec.specs.Scalar.{boolean_data, unsigned_data, signed_data, character_data, text_data, key_data}

-- how a part is read
abbrev pub Reader : Type 0
Reader = Tree → Option Data

-- a scalar: what it is for Null and NoValue, and how the last text is read otherwise
abbrev pub read_scalar : Bool → Option Data → (List ℕ → Option Data) → Reader
read_scalar reject_duplicates empty get (leaf NoValue) = empty
read_scalar reject_duplicates empty get (leaf Null) = empty
read_scalar reject_duplicates empty get (leaf (Text bytes escaped)) = get bytes
read_scalar reject_duplicates empty get (sequence xs) = option_and_then get (last_item reject_duplicates xs)
read_scalar reject_duplicates empty get _ = None

-- no value, a character, and whatever is there
abbrev pub read_unit : Reader
read_unit (leaf NoValue) = Some Data.unit
read_unit (leaf Null) = Some Data.unit
read_unit _ = None

abbrev pub read_character : Reader
read_character (leaf (Text bytes escaped)) = character_data bytes
read_character _ = None

abbrev pub read_ignored : Reader
read_ignored uninitialized = None
read_ignored _ = Some Data.unit

-- NoValue is none; Null is some of what the part reads from NoValue
abbrev pub read_option : Reader → Reader
read_option r (leaf NoValue) = Some Data.none
read_option r (leaf Null) = option_map Data.some (r (leaf NoValue))
read_option r uninitialized = None
read_option r t = option_map Data.some (r t)

-- a list with one more element at the front, if there is a list
abbrev pub with_front : {A : Type 0} → A → Option (List A) → Option (List A)
with_front x r = option_map (λ xs. x ∷ xs) r

-- every item
abbrev pub read_each : Reader → List (Option Tree) → Option (List Data)
read_each r [] = Some []
read_each r (x ∷ xs) = option_and_then (λ d. with_front d (read_each r xs)) (option_and_then r x)

-- a list
unfoldable pub read_list : Reader → Tree → Option (List Data)
read_list r t = option_and_then (read_each r) (items t)

-- A field by its name: Some None if it is left out. Two keys with its text are rejected. Without such a key it is left out if it is
-- optional, and otherwise none if its shape is an option.
abbrev pub read_field : Bool → Bool → Reader → List Tree → Option (Option Data)
read_field optional is_opt r [] = cond optional (Some None) (cond is_opt (Some (Some Data.none)) None)
read_field optional is_opt r (t ∷ []) = option_map Some (r t)
read_field optional is_opt r (t ∷ u ∷ ts) = None

-- a field by its index
abbrev pub read_place : Bool → Reader → Items → Option (Option Data)
read_place optional r no_items = cond optional (Some None) None
read_place optional r (item t xs) = option_map Some (r t)

-- the items after the first
abbrev pub items_after : Items → Items
items_after no_items = no_items
items_after (item t xs) = xs

-- a field before the others, unless it is left out
abbrev pub with_field : List ℕ → Option Data → Option (List Named) → Option (List Named)
with_field name None rest = rest
with_field name (Some d) rest = with_front (name, d) rest

-- The fields of a node: by their names in a map, whose keys are all allowed, and in Null and NoValue, which have no keys; by their
-- indices in a sequence.
unfoldable pub struct_members : (Entries → Bool) → (Entries → Option (List Named)) → (Items → Option (List Named)) → Tree → Option (List Named)
struct_members allowed names places (leaf NoValue) = names no_entries
struct_members allowed names places (leaf Null) = names no_entries
struct_members allowed names places (sequence xs) = places xs
struct_members allowed names places (mapping es) = option_and_then (λ ms. cond (allowed es) (Some ms) None) (names es)
struct_members allowed names places _ = None

-- the pairs of a map, in the order of its keys
abbrev pub read_pairs : KeyShape → Reader → Entries → Option (List (Data × Data))
read_pairs k r no_entries = Some []
read_pairs k r (entry key escaped t es) = option_and_then (λ a. option_and_then (λ d. with_front (a, d) (read_pairs k r es)) (r t)) (key_data k (segment_text key))

-- a map
unfoldable pub read_map : KeyShape → Reader → Tree → Option (List (Data × Data))
read_map k r (leaf NoValue) = Some []
read_map k r (leaf Null) = Some []
read_map k r (leaf (Text bytes escaped)) = read_pairs k r (under_empty (leaf (Text bytes escaped)))
read_map k r (mapping es) = read_pairs k r es
read_map k r _ = None

-- the variant holds nothing
abbrev pub is_unit_kind : VariantKind → Bool
is_unit_kind unit_kind = true
is_unit_kind _ = false

-- the unit variant of the name
abbrev pub unit_variant_data : Variants → List ℕ → Option Data
unit_variant_data no_variants name = None
unit_variant_data (one_variant n k vs) name = cond (bytes_eq n name) (cond (is_unit_kind k) (Some (Data.unit_variant n)) None) (unit_variant_data vs name)

-- the smallest key of a map names the variant, and a text names a unit variant
unfoldable pub read_enum : Variants → (List ℕ → Reader) → Reader
read_enum vs by_name (leaf (Text bytes escaped)) = unit_variant_data vs bytes
read_enum vs by_name (mapping (entry k escaped t es)) = by_name (segment_text k) t
read_enum vs by_name _ = None

-- anything: sequences and maps with only integer keys as sequences, other maps with their keys as texts
unfoldable mutual
  pub any_data : Reader
  any_data (leaf NoValue) = Some Data.unit
  any_data (leaf Null) = Some (Data.text [])
  any_data (leaf (Text bytes escaped)) = text_data bytes
  any_data (sequence xs) = option_map Data.sequence (any_items xs)
  any_data (mapping es) = cond (are_ints es) (option_map Data.sequence (any_places 0 es)) (option_map Data.mapping (any_pairs es))
  any_data uninitialized = None

  pub any_items : Items → Option Values
  any_items no_items = Some no_values
  any_items (item t xs) = option_and_then (λ d. option_map (one_value d) (any_items xs)) (any_data t)

  pub any_places : ℕ → Entries → Option Values
  any_places i no_entries = Some no_values
  any_places i (entry k escaped t es) = cond (is_place i k) (option_and_then (λ d. option_map (one_value d) (any_places (i + 1) es)) (any_data t)) None

  pub any_pairs : Entries → Option Pairs
  any_pairs no_entries = Some no_pairs
  any_pairs (entry k escaped t es) = option_and_then (λ a. option_and_then (λ d. option_map (one_pair a d) (any_pairs es)) (any_data t)) (text_data (segment_text k))

-- what the shape reads from the node; under `reject_duplicates` several values for a scalar are rejected
unfoldable mutual
  pub reads : Bool → Shape → Reader
  reads reject_duplicates Shape.unit t = read_unit t
  reads reject_duplicates Shape.boolean t = read_scalar reject_duplicates (Some (Data.boolean true)) boolean_data t
  reads reject_duplicates (Shape.unsigned bits) t = read_scalar reject_duplicates None (unsigned_data bits) t
  reads reject_duplicates (Shape.signed bits) t = read_scalar reject_duplicates None (signed_data bits) t
  reads reject_duplicates Shape.character t = read_character t
  reads reject_duplicates Shape.text t = read_scalar reject_duplicates (Some (Data.text [])) text_data t
  reads reject_duplicates Shape.bytes t = read_scalar reject_duplicates (Some (Data.bytes [])) (λ b. Some (Data.bytes b)) t
  reads reject_duplicates (Shape.option s) t = read_option (reads reject_duplicates s) t
  reads reject_duplicates (Shape.sequence s) t = option_map (λ ds. Data.sequence (values_of ds)) (read_list (reads reject_duplicates s) t)
  reads reject_duplicates (Shape.tuple ss) t = option_map (λ ds. Data.tuple (values_of ds)) (option_and_then (reads_tuple reject_duplicates ss) (items t))
  reads reject_duplicates (Shape.mapping k s) t = option_map (λ ps. Data.mapping (pairs_of ps)) (read_map k (reads reject_duplicates s) t)
  reads reject_duplicates (Shape.struct unknown fs) t = option_map (λ ms. Data.struct (members_of ms)) (struct_members (keys_are_allowed unknown fs) (reads_names reject_duplicates fs) (reads_places reject_duplicates fs) t)
  reads reject_duplicates (Shape.newtype s) t = option_map Data.newtype (reads reject_duplicates s t)
  reads reject_duplicates (Shape.enumeration vs) t = read_enum vs (reads_variant reject_duplicates vs) t
  reads reject_duplicates Shape.any t = any_data t
  reads reject_duplicates Shape.ignored t = read_ignored t

  -- the first items, each by its shape
  pub reads_tuple : Bool → Shapes → List (Option Tree) → Option (List Data)
  reads_tuple reject_duplicates no_shapes xs = Some []
  reads_tuple reject_duplicates (one_shape s ss) [] = None
  reads_tuple reject_duplicates (one_shape s ss) (x ∷ xs) = option_and_then (λ d. with_front d (reads_tuple reject_duplicates ss xs)) (option_and_then (reads reject_duplicates s) x)

  -- the fields in their order, each looked up among the entries
  pub reads_names : Bool → Fields → Entries → Option (List Named)
  reads_names reject_duplicates no_fields es = Some []
  reads_names reject_duplicates (one_field name s optional fs) es =
      option_and_then (λ d. with_field name d (reads_names reject_duplicates fs es)) (read_field optional (is_option s) (reads reject_duplicates s) (found name es))

  -- the fields in their order, each by its index
  pub reads_places : Bool → Fields → Items → Option (List Named)
  reads_places reject_duplicates no_fields xs = Some []
  reads_places reject_duplicates (one_field name s optional fs) xs =
      option_and_then (λ d. with_field name d (reads_places reject_duplicates fs (items_after xs))) (read_place optional (reads reject_duplicates s) xs)

  -- the variant of the name, on a value
  pub reads_variant : Bool → Variants → List ℕ → Reader
  reads_variant reject_duplicates no_variants name t = None
  reads_variant reject_duplicates (one_variant n k vs) name t = cond (bytes_eq n name) (reads_kind reject_duplicates k n t) (reads_variant reject_duplicates vs name t)

  pub reads_kind : Bool → VariantKind → List ℕ → Reader
  reads_kind reject_duplicates unit_kind n t = Some (Data.unit_variant n)
  reads_kind reject_duplicates (newtype_kind s) n t = option_map (Data.newtype_variant n) (reads reject_duplicates s t)
  reads_kind reject_duplicates (tuple_kind ss) n t = option_map (λ ds. Data.tuple_variant n (values_of ds)) (option_and_then (reads_tuple reject_duplicates ss) (items t))
  reads_kind reject_duplicates (struct_kind unknown fs) n t = option_map (λ ms. Data.struct_variant n (members_of ms)) (struct_members (keys_are_allowed unknown fs) (reads_names reject_duplicates fs) (reads_places reject_duplicates fs) (as_map t))

-- what a configuration and a shape read from a node
abbrev pub read_by : Config → Shape → Reader
read_by config s t = reads (are_rejected config.duplicates) s t
