use Rattle.std.proofs.Common.{◌≡◌, map, drop, Option}
use Rattle.qs_spec.specs.Tree.{Tree}
use Rattle.std.specs.Option.{option_and_then}
use Rattle.qs_spec.specs.internal.ReadFunction.{reads}
use Rattle.qs_data.specs.read.Items.{items_view}
use Rattle.serde_qs.specs.internal.NodeParts.{each_value}
use Rattle.qs_data.proofs.lemmas.read.Steps.{before}
use Rattle.serde_qs.proofs.types.lists.values_of.Given as goal

abbrev pub invariant-loop-i : goal.invariant-loop-i
invariant-loop-i g l =
    let r : Tree → Option g.T.Deserialize.table.Value = λ node. option_and_then g.T.Deserialize.table.meaning (reads l.fn.reader.reject_duplicates g.T.Deserialize.table.shape node) in
    each_value r (items_view l.fn.items) ≡ before (map g.T.Deserialize.table.value l.values.items) (each_value r (drop l.i (items_view l.fn.items)))
