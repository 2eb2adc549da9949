use Rattle.std.proofs.Common.{true, sym, ap, ◌∙◌}
use Rattle.std.specs.Option.{option_and_then}
use Rattle.std.proofs.lemmas.Bool.{false≢true}
use Rattle.qs_spec.specs.Node.{items}
use Rattle.qs_tree.specs.tree.Views.{tree_of}
use Rattle.qs_data.specs.read.TreeText.{is_text}
use Rattle.qs_data.specs.read.Items.{are_text, items_view}
use Rattle.qs_data.proofs.lemmas.read.Errors.{gives_exit}
use Rattle.serde_qs.specs.Held.{by_shapes}
use Rattle.serde_qs.proofs.NodeTuples.{tuple_read}
use Rattle.serde_qs.proofs.compound.parts.TupleParts.from_node.Goals as goal

pub returns-in_err-items : goal.returns-in_err-items
returns-in_err-items g c =
    let t = g.I.TupleItems.table in
    let reject_duplicates = c.args.reader.reject_duplicates in
    let n = tree_of c.args.node.now in
    record {
      node = gives_exit _ true (is_text n) c.from_residual.result c.in_err-items.field-0.0 (items n) _ c.from_residual.ensures.1 c.in_err-items.ensures.exact
          (λ none. tuple_read t.meaning reject_duplicates t.shape n ∙ ap (option_and_then (by_shapes reject_duplicates t.shape t.meaning)) none) (λ f. absurd (false≢true (sym f)));
    }

pub returns-in_err-from_places : goal.returns-in_err-from_places
returns-in_err-from_places g c =
    let t = g.I.TupleItems.table in
    let reject_duplicates = c.args.reader.reject_duplicates in
    let n = tree_of c.args.node.now in
    let xs = items_view c.in_ok-items.items in
    record {
      node = gives_exit _ (are_text xs) (is_text n) c.from_residual-in_err-from_places.result c.in_err-from_places.field-0.0 (by_shapes reject_duplicates t.shape t.meaning xs) _
          c.from_residual-in_err-from_places.ensures.1 c.in_err-from_places.ensures
          (λ none. tuple_read t.meaning reject_duplicates t.shape n ∙ ap (option_and_then (by_shapes reject_duplicates t.shape t.meaning)) c.in_ok-items.ensures.exact ∙ none) c.in_ok-items.ensures.text;
    }

pub returns : goal.returns
returns g c =
    let t = g.I.TupleItems.table in
    let reject_duplicates = c.args.reader.reject_duplicates in
    record { node = tuple_read t.meaning reject_duplicates t.shape (tree_of c.args.node.now) ∙ ap (option_and_then (by_shapes reject_duplicates t.shape t.meaning)) c.in_ok-items.ensures.exact ∙ c.in_ok-from_places.ensures }
