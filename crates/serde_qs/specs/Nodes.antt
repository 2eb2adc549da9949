-- What types read from a node of a tree.
use Rattle.std.specs.Prelude.{Bool, cond, List, Result, Option, Some, None, option_and_then}
use Rattle.qs_tree.specs.declared.error.Error.{Error}
use Rattle.qs_data.specs.read.Gives.{Gives}
use Rattle.qs_data.specs.read.Reads.{reads, reads_names, reads_places}
use Rattle.qs_data.specs.read.TreeText.{is_text}
use Rattle.qs_spec.specs.Data.{Data, Members, members_of}
use Rattle.qs_spec.specs.Shape.{Shape, Field, fields_of, is_option}
use Rattle.qs_spec.specs.Tree.{Tree, Entries, Items}

-- By view, the result is the meaning of the data that the shape reads from the node. Under `reject_duplicates` several values for a scalar
-- are rejected. An error is returned exactly if there is no such data or it means nothing, and a Utf8 error only if not all of the node is
-- text.
abbrev pub ReadsNode : {X V : Type 0} → (X → V) → Shape → (Data → Option V) → Bool → Tree → Result X Error → Type 0
ReadsNode view shape meaning reject_duplicates node result = Gives view (is_text node) result (option_and_then meaning (reads reject_duplicates shape node))

-- the data of a field that has no key: `none`, if its shape is an option
abbrev pub missing_data : Shape → Option Data
missing_data s = cond (is_option s) (Some Data.none) None

-- the meaning of the members that fields read by their names
abbrev pub by_names : {V : Type 0} → Bool → List Field → (Members → Option V) → Entries → Option V
by_names reject_duplicates fields meaning es = option_and_then (λ ms. meaning (members_of ms)) (reads_names reject_duplicates (fields_of fields) es)

-- the meaning of the members that fields read by their indices
abbrev pub by_places : {V : Type 0} → Bool → List Field → (Members → Option V) → Items → Option V
by_places reject_duplicates fields meaning xs = option_and_then (λ ms. meaning (members_of ms)) (reads_places reject_duplicates (fields_of fields) xs)
