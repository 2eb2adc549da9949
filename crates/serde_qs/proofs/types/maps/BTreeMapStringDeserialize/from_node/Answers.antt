use Rattle.std.proofs.Common.{true, Option, ap, sym, ◌∙◌}
use Rattle.std.specs.Option.{option_and_then}
use Rattle.std.specs.BTreeMap.{BTreeMap}
use Rattle.std.specs.declared.string.String.{String}
use Rattle.std.specs.declared.alloc.Global.{Global}
use Rattle.std.proofs.lemmas.Bool.{false≢true}
use Rattle.qs_spec.specs.Shape as s
use Rattle.qs_spec.specs.Tree.{Tree}
use Rattle.qs_spec.specs.internal.ReadFunction.{reads}
use Rattle.qs_tree.specs.tree.Views.{tree_of}
use Rattle.qs_data.specs.read.Entries.{node_entries}
use Rattle.qs_data.specs.read.Keys.{entries_view}
use Rattle.qs_data.specs.read.TreeText.{entries_are_text, is_text}
use Rattle.qs_data.proofs.lemmas.read.Errors.{gives_exit}
use Rattle.serde_qs.specs.Maps.{mapping_in, nowhere, values_by_text}
use Rattle.serde_qs.specs.internal.NodeEntries.{entries_onto}
use Rattle.serde_qs.proofs.NodeEntries.{mapping_read}
use Rattle.serde_qs.proofs.NodeValues.{widened}
use Rattle.serde_qs.proofs.types.maps.BTreeMapStringDeserialize.from_node.Goals as goal

pub returns-in_err-entries : goal.returns-in_err-entries
returns-in_err-entries g c =
    let n = tree_of c.args.node.now in
    let m = g.T.Deserialize.table.meaning in
    let reject_duplicates = c.args.reader.reject_duplicates in
    let shape = g.T.Deserialize.table.shape in
    record {
      node = gives_exit (λ (x : BTreeMap (String Global) g.row.T.Denot). values_by_text g.T.Deserialize.table.value x) true (is_text n) c.from_residual.result c.in_err-entries.field-0.0 (node_entries n)
          (option_and_then (mapping_in m) (reads reject_duplicates (s.Shape.mapping s.KeyShape.text shape) n)) c.from_residual.ensures.1 c.in_err-entries.ensures.exact
          (λ none. mapping_read m reject_duplicates shape n ∙ ap (option_and_then (entries_onto (λ t. option_and_then m (reads reject_duplicates shape t)) nowhere)) none)
          (λ f. absurd (false≢true (sym f)));
    }

pub returns : goal.returns
returns g c =
    let n = tree_of c.args.node.now in
    let m = g.T.Deserialize.table.meaning in
    let reject_duplicates = c.args.reader.reject_duplicates in
    let shape = g.T.Deserialize.table.shape in
    let es = entries_view c.in_ok-entries.entries in
    let r : Tree → Option g.T.Deserialize.table.Value = λ t. option_and_then m (reads reject_duplicates shape t) in
    record {
      node = widened (λ (x : BTreeMap (String Global) g.row.T.Denot). values_by_text g.T.Deserialize.table.value x) (entries_are_text es) (is_text n) c.entries_of.result (entries_onto r nowhere es)
          (option_and_then (mapping_in m) (reads reject_duplicates (s.Shape.mapping s.KeyShape.text shape) n)) c.entries_of.ensures
          (sym (mapping_read m reject_duplicates shape n ∙ ap (option_and_then (entries_onto r nowhere)) c.in_ok-entries.ensures.exact)) c.in_ok-entries.ensures.text;
    }
