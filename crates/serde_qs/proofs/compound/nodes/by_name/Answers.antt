use Rattle.std.proofs.Common.{[]}
use Rattle.qs_spec.specs.Node.{found}
use Rattle.qs_spec.specs.internal.ReadFunction.{reads}
use Rattle.qs_tree.specs.tree.Views.{tree_of}
use Rattle.qs_data.specs.read.TreeText.{entries_are_text}
use Rattle.qs_data.specs.read.Keys.{entries_view}
use Rattle.qs_data.proofs.lemmas.read.Fields.{found_bad}
use Rattle.serde_qs.specs.FieldTypes.{keyless}
use Rattle.serde_qs.specs.Nodes.{missing_data}
use Rattle.serde_qs.proofs.Narrowed.{missing_given, found_given, several_exit}
use Rattle.serde_qs.proofs.compound.nodes.by_name.Goals as goal

pub returns-in-Missing : goal.returns-in-Missing
returns-in-Missing g c =
    let t = g.F.FieldType.table in
    let es = entries_view c.args.entries in
    missing_given t.value (entries_are_text es) c.without_key.result c.of_result.result t.meaning (keyless t.meaning (missing_data t.shape) t.missing) (reads c.args.reader.reject_duplicates t.shape) (found c.args.name.now es)
    c.of_result.ensures c.without_key.ensures c.in-Missing.ensures

pub returns-in-One : goal.returns-in-One
returns-in-One g c =
    let t = g.F.FieldType.table in
    let es = entries_view c.args.entries in
    let n = tree_of c.in-One.node.now in
    found_given t.value (entries_are_text es) c.of_node.result c.of_result-in-One.result t.meaning (keyless t.meaning (missing_data t.shape) t.missing) (reads c.args.reader.reject_duplicates t.shape) (found c.args.name.now es) n
    c.of_result-in-One.ensures c.of_node.ensures c.in-One.ensures (found_bad c.args.name.now es n [] c.in-One.ensures)

pub returns-in-Several : goal.returns-in-Several
returns-in-Several g c =
    let t = g.F.FieldType.table in
    let es = entries_view c.args.entries in
    let two = c.in-Several.ensures in
    several_exit (entries_are_text es) c.of.result c.duplicate_field.result t.meaning (keyless t.meaning (missing_data t.shape) t.missing) (reads c.args.reader.reject_duplicates t.shape) (found c.args.name.now es) two.0 two.1 two.2
    c.of.ensures c.duplicate_field.ensures two.3
