-- Why a node isn't read, whatever its parts hold.
use Rattle.std.specs.Prelude.{◌≡◌, ℕ, Bool, true, false, List, ◌∷◌, Some, None}
use Rattle.std.specs.Option.{is_some}
use Rattle.qs_spec.specs.Leaf.Leaf.{NoValue, Null, Text}
use Rattle.qs_spec.specs.Node.{found, items, keys_are_allowed}
use Rattle.qs_spec.specs.Scalar.{key_data}
use Rattle.qs_spec.specs.Segment.{Segment, segment_text}
use Rattle.qs_spec.specs.Shape.{KeyShape, Shape, Shapes, Fields, Variants, UnknownKeys}
use Rattle.qs_spec.specs.Tree.{Tree, Entries}
use Rattle.qs_spec.specs.Tree.Tree.{leaf, sequence, mapping, uninitialized}
use Rattle.qs_spec.specs.Tree.Entries.{no_entries, entry}
use Rattle.qs_data.specs.read.Entries.{node_entries}
use Rattle.qs_data.specs.read.Held.{unit_variant_data}
use Rattle.qs_data.specs.read.Reads.{reads}
use Rattle.qs_data.specs.failure.Parts.{HasEntry, HasField, field_keys}
use Rattle.qs_data.specs.shape.Variants.{variant_named}

-- a shape whose nodes have parts that are named in a path
abbrev pub has_parts : Shape → Bool
has_parts (Shape.option s) = true
has_parts (Shape.newtype s) = true
has_parts (Shape.sequence s) = true
has_parts (Shape.tuple ss) = true
has_parts (Shape.mapping k s) = true
has_parts (Shape.struct u fs) = true
has_parts (Shape.enumeration vs) = true
has_parts _ = false

-- fields are read from it: by their names, or from a sequence by their indices
abbrev pub has_fields : Tree → Bool
has_fields (leaf NoValue) = true
has_fields (leaf Null) = true
has_fields (leaf (Text bytes escaped)) = false
has_fields (sequence xs) = true
has_fields (mapping es) = true
has_fields uninitialized = false

-- two keys name the same field, or a key isn't allowed
pub data IsOfKeys (u : UnknownKeys) (fs : Fields) (es : Entries) : Type 0 where
  two_keys : {name : List ℕ} {s : Shape} {optional : Bool} {a b : Tree} {rest : List Tree} → HasField name s optional fs → found name es ≡ a ∷ b ∷ rest → IsOfKeys u fs es
  other_key : keys_are_allowed u fs es ≡ false → IsOfKeys u fs es

-- a text names a unit variant, and the first key of a map any variant
abbrev pub names_variant : Variants → Tree → Bool
names_variant vs (leaf (Text bytes escaped)) = is_some (unit_variant_data vs bytes)
names_variant vs (mapping (entry key escaped n es)) = is_some (variant_named (segment_text key) vs)
names_variant vs _ = false

-- Nothing is read from the node, and not because of one of its parts.
pub data IsOwn (reject_duplicates : Bool) : Shape → Tree → Type 0 where
  no_parts : {s : Shape} {n : Tree} → has_parts s ≡ false → reads reject_duplicates s n ≡ None → IsOwn reject_duplicates s n
  nothing : {s : Shape} → IsOwn reject_duplicates s uninitialized
  no_list : {s : Shape} {n : Tree} → items n ≡ None → IsOwn reject_duplicates (Shape.sequence s) n
  no_tuple : {ss : Shapes} {n : Tree} → items n ≡ None → IsOwn reject_duplicates (Shape.tuple ss) n
  no_map : {k : KeyShape} {s : Shape} {n : Tree} → node_entries n ≡ None → IsOwn reject_duplicates (Shape.mapping k s) n
  unread_key : {k : KeyShape} {s : Shape} {n m : Tree} {es : Entries} {key : Segment}
      → node_entries n ≡ Some es → HasEntry key m es → key_data k (segment_text key) ≡ None → IsOwn reject_duplicates (Shape.mapping k s) n
  no_struct : {u : UnknownKeys} {fs : Fields} {n : Tree} → has_fields n ≡ false → IsOwn reject_duplicates (Shape.struct u fs) n
  of_keys : {u : UnknownKeys} {fs : Fields} {n : Tree} {es : Entries} → field_keys n ≡ Some es → IsOfKeys u fs es → IsOwn reject_duplicates (Shape.struct u fs) n
  no_variant : {vs : Variants} {n : Tree} → names_variant vs n ≡ false → IsOwn reject_duplicates (Shape.enumeration vs) n
