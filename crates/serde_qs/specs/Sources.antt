-- The source of a value's parts.
use Rattle.std.specs.Prelude.{Bool, true, Result, Option, Some, option_and_then}
use Rattle.qs_tree.specs.declared.error.Error.{Error}
use Rattle.qs_tree.specs.tree.Views.{tree_of}
use Rattle.qs_data.specs.data.Views.{data_of}
use Rattle.qs_data.specs.read.Gives.{Gives}
use Rattle.qs_data.specs.read.TreeText.{is_text}
use Rattle.qs_data.specs.read.Reads.{reads}
use Rattle.qs_spec.specs.Data.{Data}
use Rattle.qs_spec.specs.Shape.{Shape}
use Rattle.serde_qs.specs.declared.compound.source.Source.{Source}
use Rattle.serde_qs.specs.declared.compound.source.Source.TheVariants as from

-- the source's data, or the data that the shape reads from the node
abbrev pub source_data : Shape → Source → Option Data
source_data shape (from.Data alloc datum) = Some (data_of datum)
source_data shape (from.Node reader node) = reads reader.reject_duplicates shape (tree_of node.now)
source_data shape (from.Traced reader node path) = reads reader.reject_duplicates shape (tree_of node.now)

-- all that is read is text
abbrev pub source_text : Source → Bool
source_text (from.Data alloc datum) = true
source_text (from.Node reader node) = is_text (tree_of node.now)
source_text (from.Traced reader node path) = is_text (tree_of node.now)

-- By view, the result is what this data means, as `GivesValue` says for data, and `ReadsNode` for a node.
abbrev pub ReadsSource : {X V : Type 0} → (X → V) → Shape → (Data → Option V) → Source → Result X Error → Type 0
ReadsSource view shape meaning source result = Gives view (source_text source) result (option_and_then meaning (source_data shape source))
