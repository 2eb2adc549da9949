use Rattle.std.proofs.Common.{◌≡◌, ◌+◌, Some, None, drop, sym, ap, ◌∙◌, true}
use Rattle.std.specs.Option.{option_and_then, option_map}
use Rattle.std.proofs.lemmas.Bool.{false≢true}
use Rattle.qs_spec.specs.internal.ReadFunction.{reads}
use Rattle.qs_tree.specs.tree.Views.{tree_of}
use Rattle.qs_data.specs.read.TreeText.{is_text}
use Rattle.qs_data.specs.read.Items.{are_text, first_item, items_view}
use Rattle.qs_data.proofs.lemmas.read.Errors.{custom, gives_exit}
use Rattle.qs_data.proofs.lemmas.read.Items.{due_bad}
use Rattle.serde_qs.specs.Held.{by_shapes}
use Rattle.serde_qs.proofs.NodeFields.{both_read, first_unread, others_unread}
use Rattle.serde_qs.proofs.NodeTuples.{item_missing, item_read, item_rejected}
use Rattle.serde_qs.proofs.compound.items.Tuple2TupleItems.from_places.Goals as goal

pub returns-in_err-item : goal.returns-in_err-item
returns-in_err-item g c =
    let t = g.T.Deserialize.table in
    let r = g.R.TupleItems.table in
    let xs = items_view c.args.items in
    let i = c.args.place in
    gives_exit _ true (are_text xs) c.from_residual.result c.in_err-item.field-0.0 (first_item (drop i xs)) _ c.from_residual.ensures.1 c.in_err-item.ensures
    (item_rejected t.meaning r.meaning c.args.reader.reject_duplicates t.shape r.shape xs i) (λ f. absurd (false≢true (sym f)))

pub returns-in_default : goal.returns-in_default
returns-in_default g c =
    let t = g.T.Deserialize.table in
    let r = g.R.TupleItems.table in
    let xs = items_view c.args.items in
    let i = c.args.place in
    let h : first_item (drop i xs) ≡ Some None = c.in_ok-item.ensures ∙ ap (λ o. Some (option_map (λ v. tree_of v.now) o)) c.in_default.is in
    custom (are_text xs) c.missing_item.result _ c.missing_item.ensures (item_missing t.meaning r.meaning c.args.reader.reject_duplicates t.shape r.shape xs i h)

pub returns-in_err-first : goal.returns-in_err-first
returns-in_err-first g c =
    let t = g.T.Deserialize.table in
    let r = g.R.TupleItems.table in
    let reject_duplicates = c.args.reader.reject_duplicates in
    let xs = items_view c.args.items in
    let i = c.args.place in
    let n = tree_of c.in-Some.item.now in
    let h : first_item (drop i xs) ≡ Some (Some n) = c.in_ok-item.ensures ∙ ap (λ o. Some (option_map (λ v. tree_of v.now) o)) c.in-Some.is in
    first_unread _ (is_text n) (are_text xs) c.from_residual-in_err-first.result c.in_err-first.field-0.0 _ (option_and_then t.meaning (reads reject_duplicates t.shape n)) (by_shapes reject_duplicates r.shape r.meaning (drop (i + 1) xs))
    c.from_residual-in_err-first.ensures.1 c.in_err-first.ensures.node (item_read t.meaning r.meaning reject_duplicates t.shape r.shape xs i n h) (due_bad i xs n h)

pub returns-in_err-others : goal.returns-in_err-others
returns-in_err-others g c =
    let t = g.T.Deserialize.table in
    let r = g.R.TupleItems.table in
    let reject_duplicates = c.args.reader.reject_duplicates in
    let xs = items_view c.args.items in
    let i = c.args.place in
    let n = tree_of c.in-Some.item.now in
    let h : first_item (drop i xs) ≡ Some (Some n) = c.in_ok-item.ensures ∙ ap (λ o. Some (option_map (λ v. tree_of v.now) o)) c.in-Some.is in
    others_unread _ (are_text xs) (are_text xs) c.from_residual-in_err-others.result c.in_err-others.field-0.0 _ (option_and_then t.meaning (reads reject_duplicates t.shape n)) (by_shapes reject_duplicates r.shape r.meaning (drop (i + 1) xs))
    c.from_residual-in_err-others.ensures.1 c.in_err-others.ensures (item_read t.meaning r.meaning reject_duplicates t.shape r.shape xs i n h) (λ f. f)

pub returns : goal.returns
returns g c =
    let t = g.T.Deserialize.table in
    let r = g.R.TupleItems.table in
    let xs = items_view c.args.items in
    let i = c.args.place in
    let n = tree_of c.in-Some.item.now in
    let h : first_item (drop i xs) ≡ Some (Some n) = c.in_ok-item.ensures ∙ ap (λ o. Some (option_map (λ v. tree_of v.now) o)) c.in-Some.is in
    both_read _ _ _ _ _ (item_read t.meaning r.meaning c.args.reader.reject_duplicates t.shape r.shape xs i n h) c.in_ok-first.ensures.node c.in_ok-others.ensures
