-- Keys with their values, and what is known of them once they were tested.
use Rattle.std.specs.Prelude.{◌≡◌, ◌<◌, ◌^◌, ⊤, Bool, true, false, Result, Ok, Err}
use Rattle.qs_spec.specs.Segment.{Segment}
use Rattle.qs_spec.specs.Segment.Segment.{Int, Str}
use Rattle.qs_spec.specs.Tree as t
use Rattle.qs_spec.specs.Tree.Entries.{no_entries, entry}
use Rattle.qs_spec.specs.Node.{under_empty}
use Rattle.qs_tree.specs.tree.Views.{tree_of, entries_of_map}
use Rattle.qs_data.specs.declared.read.keys.NodeEntries.{NodeEntries}
use Rattle.qs_data.specs.declared.read.keys.NodeEntries.TheVariants as e
-- what happens to unknown keys, and nothing more to return if a test is passed
pub use Rattle.qs_data.specs.read.internal.Keys.{unknown_of, when}

-- each key with its value; a leaf is under the empty text
abbrev pub entries_view : NodeEntries → t.Entries
entries_view e.Empty = no_entries
entries_view (e.Map map) = entries_of_map map.now
entries_view (e.Leaf leaf) = under_empty (tree_of leaf.now)

-- an integer key has 32 bits
abbrev pub KeyFits : Segment → Type 0
KeyFits (Int n) = n < 2 ^ 32
KeyFits (Str bytes) = ⊤

-- each integer key has 32 bits
abbrev pub NumbersFit : t.Entries → Type 0
NumbersFit no_entries = ⊤
NumbersFit (entry k escaped t es) = KeyFits k × NumbersFit es

-- the result is Ok if the test is passed, and an error if it isn't
abbrev pub PassesTest : {X E : Type 0} → Result X E → Bool → Type 0
PassesTest (Ok x) test = test ≡ true
PassesTest (Err e) test = test ≡ false
