-- The first key of a map that its shape doesn't allow.
use Rattle.std.specs.Prelude.{ℕ, Bool, ◌&&◌, ◌||◌, cond, List, Option, Some, None}
use Rattle.std.specs.Option.{is_some}
use Rattle.std.specs.Str.{is_utf8}
use Rattle.qs_spec.specs.Scalar.{key_data}
use Rattle.qs_spec.specs.Segment.{Segment, segment_text}
use Rattle.qs_spec.specs.Shape.{Shape, Fields, Variants, UnknownKeys, KeyShape, are_ignored, is_field_name}
use Rattle.qs_spec.specs.Tree.{Tree, Entries}
use Rattle.qs_spec.specs.Tree.Tree.{mapping}
use Rattle.qs_spec.specs.Tree.Entries.{no_entries, entry}
use Rattle.qs_data.specs.shape.Variants.{variant_named}

-- the first key whose text fails the test
abbrev pub first_other : (List ℕ → Bool) → Entries → Option Segment
first_other test no_entries = None
first_other test (entry key escaped n es) = cond (test (segment_text key)) (first_other test es) (Some key)

-- UTF-8, and a field's name if unknown keys are rejected
abbrev pub is_allowed : UnknownKeys → Fields → List ℕ → Bool
is_allowed u fs name = is_utf8 name && (is_field_name name fs || are_ignored u)

-- the key shape reads the text of the key
abbrev pub is_key : KeyShape → List ℕ → Bool
is_key k name = is_some (key_data k name)

-- the key names a variant
abbrev pub is_variant : Variants → List ℕ → Bool
is_variant vs name = is_some (variant_named name vs)

-- the first entry alone, which names an enum's variant
abbrev pub first_entry : Entries → Entries
first_entry no_entries = no_entries
first_entry (entry key escaped n es) = entry key escaped n no_entries

-- the first key that the shape doesn't allow: among entries, and of a node
abbrev pub unexpected_among : Shape → Entries → Option Segment
unexpected_among (Shape.mapping k s) es = first_other (is_key k) es
unexpected_among (Shape.struct u fs) es = first_other (is_allowed u fs) es
unexpected_among (Shape.enumeration vs) es = first_other (is_variant vs) (first_entry es)
unexpected_among _ es = None

abbrev pub unexpected_key : Shape → Tree → Option Segment
unexpected_key s (mapping es) = unexpected_among s es
unexpected_key s _ = None
