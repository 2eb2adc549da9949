-- What a variant of an enum holds: the value under its name, or nothing if a text alone names it.
use Rattle.std.specs.Prelude.{Bool, true, Option, Some, None}
use Rattle.qs_spec.specs.Tree.{Tree}
use Rattle.qs_data.specs.read.TreeText.{is_text}
-- What the first items of a node are read as, each by its shape; what the variant of a name is read as, and one of a kind, each from a value;
-- and the unit variant of a name.
pub use Rattle.qs_spec.specs.internal.ReadFunction.{reads_tuple, reads_variant, reads_kind, unit_variant_data, is_unit_kind}

-- all of it is text
abbrev pub held_is_text : Option Tree → Bool
held_is_text None = true
held_is_text (Some t) = is_text t
