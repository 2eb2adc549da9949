-- The entries of a node, index by index.
use Rattle.std.specs.Prelude.{ℕ, cond, List, Option, Some, None}
use Rattle.std.specs.Str.{is_utf8}
use Rattle.qs_spec.specs.Segment.{segment_text}
use Rattle.qs_spec.specs.Leaf.Leaf.{NoValue, Null, Text}
use Rattle.qs_spec.specs.Tree.{Tree, Entries}
use Rattle.qs_spec.specs.Tree.Tree.{leaf, sequence, mapping, uninitialized}
use Rattle.qs_spec.specs.Tree.Entries.{no_entries, entry}
use Rattle.qs_spec.specs.Node.{under_empty}
-- the entries from an index on
pub use Rattle.qs_data.specs.read.internal.Keys.{entries_after}

-- the entries of a node, if it has a map of them
abbrev pub node_entries : Tree → Option Entries
node_entries (leaf NoValue) = Some no_entries
node_entries (leaf Null) = Some no_entries
node_entries (leaf (Text bytes escaped)) = Some (under_empty (leaf (Text bytes escaped)))
node_entries (sequence xs) = None
node_entries (mapping es) = Some es
node_entries uninitialized = None

-- the first entry with the text of its key, if there is one; a key that isn't UTF-8 is rejected
abbrev pub first_entry : Entries → Option (Option (List ℕ × Tree))
first_entry no_entries = Some None
first_entry (entry k escaped t es) = cond (is_utf8 (segment_text k)) (Some (Some (segment_text k, t))) None
