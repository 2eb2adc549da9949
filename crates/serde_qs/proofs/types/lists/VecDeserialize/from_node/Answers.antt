use Rattle.std.proofs.Common.{true, Option, map, sym, ap, ◌∙◌}
use Rattle.std.specs.Option.{option_and_then}
use Rattle.std.specs.declared.vec.Vec.{Vec}
use Rattle.std.specs.declared.alloc.Global.{Global}
use Rattle.std.proofs.lemmas.Bool.{false≢true}
use Rattle.qs_spec.specs.Shape as s
use Rattle.qs_spec.specs.Tree.{Tree}
use Rattle.qs_spec.specs.Node.{items}
use Rattle.qs_spec.specs.internal.ReadFunction.{reads}
use Rattle.qs_tree.specs.tree.Views.{tree_of}
use Rattle.qs_data.specs.read.TreeText.{is_text}
use Rattle.qs_data.specs.read.Items.{are_text, items_view}
use Rattle.qs_data.proofs.lemmas.read.Errors.{gives_exit}
use Rattle.serde_qs.specs.Meaning.{sequence_in}
use Rattle.serde_qs.specs.internal.NodeParts.{each_value}
use Rattle.serde_qs.proofs.NodeItems.{sequence_read}
use Rattle.serde_qs.proofs.NodeValues.{widened}
use Rattle.serde_qs.proofs.types.lists.VecDeserialize.from_node.Goals as goal

pub returns-in_err-items : goal.returns-in_err-items
returns-in_err-items g c =
    let n = tree_of c.args.node.now in
    let m = g.T.Deserialize.table.meaning in
    let reject_duplicates = c.args.reader.reject_duplicates in
    record {
      node = gives_exit (λ (xs : Vec g.row.T.Denot Global). map g.T.Deserialize.table.value xs.items) true (is_text n) c.from_residual.result c.in_err-items.field-0.0 (items n)
          (option_and_then (sequence_in m) (reads reject_duplicates (s.Shape.sequence g.T.Deserialize.table.shape) n)) c.from_residual.ensures.1 c.in_err-items.ensures.exact
          (λ none. sequence_read m reject_duplicates g.T.Deserialize.table.shape n ∙ ap (option_and_then (each_value (λ t. option_and_then m (reads reject_duplicates g.T.Deserialize.table.shape t)))) none)
          (λ f. absurd (false≢true (sym f)));
    }

pub returns : goal.returns
returns g c =
    let n = tree_of c.args.node.now in
    let m = g.T.Deserialize.table.meaning in
    let reject_duplicates = c.args.reader.reject_duplicates in
    let xs = items_view c.in_ok-items.items in
    let r : Tree → Option g.T.Deserialize.table.Value = λ t. option_and_then m (reads reject_duplicates g.T.Deserialize.table.shape t) in
    record {
      node = widened (λ (ys : Vec g.row.T.Denot Global). map g.T.Deserialize.table.value ys.items) (are_text xs) (is_text n) c.values_of.result (each_value r xs)
          (option_and_then (sequence_in m) (reads reject_duplicates (s.Shape.sequence g.T.Deserialize.table.shape) n)) c.values_of.ensures
          (sym (sequence_read m reject_duplicates g.T.Deserialize.table.shape n ∙ ap (option_and_then (each_value r)) c.in_ok-items.ensures.exact)) c.in_ok-items.ensures.text;
    }
