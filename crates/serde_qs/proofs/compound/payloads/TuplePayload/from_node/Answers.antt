use Rattle.std.proofs.Common.{true, sym, ap, ◌∙◌}
use Rattle.std.specs.Option.{option_and_then, option_map}
use Rattle.std.proofs.lemmas.Bool.{false≢true}
use Rattle.qs_spec.specs.Node.{items}
use Rattle.qs_tree.specs.tree.Views.{tree_of}
use Rattle.qs_data.specs.read.Held.{held_is_text}
use Rattle.qs_data.specs.read.Items.{are_text, items_view}
use Rattle.qs_data.proofs.lemmas.read.Errors.{gives_exit}
use Rattle.serde_qs.specs.Held.{by_shapes}
use Rattle.serde_qs.proofs.NodeVariants.{tuple_held}
use Rattle.serde_qs.proofs.compound.payloads.TuplePayload.from_node.Goals as goal

pub returns-in_err-items : goal.returns-in_err-items
returns-in_err-items g c = λ name.
    let t = g.I.TupleItems.table in
    let reject_duplicates = c.args.reader.reject_duplicates in
    let o = option_map (λ v. tree_of v.now) c.args.held in
    gives_exit _ true (held_is_text o) c.from_residual.result c.in_err-items.field-0.0 (option_and_then items o) _ c.from_residual.ensures.1 c.in_err-items.ensures.exact
    (λ none. tuple_held t.meaning reject_duplicates t.shape name o ∙ ap (option_and_then (by_shapes reject_duplicates t.shape t.meaning)) none) (λ f. absurd (false≢true (sym f)))

pub returns-in_err-from_places : goal.returns-in_err-from_places
returns-in_err-from_places g c = λ name.
    let t = g.I.TupleItems.table in
    let reject_duplicates = c.args.reader.reject_duplicates in
    let o = option_map (λ v. tree_of v.now) c.args.held in
    let xs = items_view c.in_ok-items.items in
    gives_exit _ (are_text xs) (held_is_text o) c.from_residual-in_err-from_places.result c.in_err-from_places.field-0.0 (by_shapes reject_duplicates t.shape t.meaning xs) _
    c.from_residual-in_err-from_places.ensures.1 c.in_err-from_places.ensures
    (λ none. tuple_held t.meaning reject_duplicates t.shape name o ∙ ap (option_and_then (by_shapes reject_duplicates t.shape t.meaning)) c.in_ok-items.ensures.exact ∙ none) c.in_ok-items.ensures.text

pub returns : goal.returns
returns g c = λ name.
    let t = g.I.TupleItems.table in
    let reject_duplicates = c.args.reader.reject_duplicates in
    let o = option_map (λ v. tree_of v.now) c.args.held in
    tuple_held t.meaning reject_duplicates t.shape name o ∙ ap (option_and_then (by_shapes reject_duplicates t.shape t.meaning)) c.in_ok-items.ensures.exact ∙ c.in_ok-from_places.ensures
