use Rattle.std.proofs.Common.{map, sym, ap, ◌∙◌}
use Rattle.qs_spec.specs.internal.ReadFunction.{items_after, reads}
use Rattle.qs_tree.specs.tree.Views.{items_from, tree_of}
use Rattle.qs_data.specs.read.TreeText.{items_are_text}
use Rattle.serde_qs.specs.FieldTypes.{absent}
use Rattle.serde_qs.specs.Meaning.{both}
use Rattle.serde_qs.specs.Nodes.{by_places}
use Rattle.serde_qs.specs.internal.NodeParts.{value_placed}
use Rattle.serde_qs.specs.Records.{texts}
use Rattle.serde_qs.proofs.NodeFields.{field_by_place, after_bad, both_read, first_unread, others_differ, others_unread}
use Rattle.serde_qs.proofs.compound.fields.Tuple2Fields.from_places.Goals as goal

pub from_places-requires : goal.from_places-requires
from_places-requires g c =
    let t = g.F.FieldType.table in
    let r = g.R.Fields.table in
    let reject_duplicates = c.args.reader.reject_duplicates in
    let names = texts c.args.names.now in
    others_differ t.missing t.meaning r.meaning reject_duplicates t.shape r.shape names c.split.result.0.now (texts c.split.result.1.now) c.split.ensures.first c.split.ensures.others c.requires

pub returns-in_err-first : goal.returns-in_err-first
returns-in_err-first g c =
    let t = g.F.FieldType.table in
    let r = g.R.Fields.table in
    let reject_duplicates = c.args.reader.reject_duplicates in
    let names = texts c.args.names.now in
    let xs = items_from (map tree_of c.args.items.now) in
    let whole = field_by_place t.missing t.meaning r.meaning reject_duplicates t.shape r.shape names c.split.result.0.now (texts c.split.result.1.now) c.split.ensures.first c.split.ensures.others c.requires xs in
    first_unread _ (items_are_text xs) (items_are_text xs) c.from_residual.result c.in_err-first.field-0.0 _ (value_placed t.meaning (absent t.missing) (reads reject_duplicates t.shape) xs)
    (by_places reject_duplicates (r.shape (texts c.split.result.1.now)) (r.meaning (texts c.split.result.1.now)) (items_after xs)) c.from_residual.ensures.1 c.in_err-first.ensures whole (λ f. f)

pub returns-in_err-others : goal.returns-in_err-others
returns-in_err-others g c =
    let t = g.F.FieldType.table in
    let r = g.R.Fields.table in
    let reject_duplicates = c.args.reader.reject_duplicates in
    let names = texts c.args.names.now in
    let xs = items_from (map tree_of c.args.items.now) in
    let ys = items_from (map tree_of c.after.result.now) in
    let named = r.meaning (texts c.split.result.1.now) in
    let fs = r.shape (texts c.split.result.1.now) in
    let whole = field_by_place t.missing t.meaning r.meaning reject_duplicates t.shape r.shape names c.split.result.0.now (texts c.split.result.1.now) c.split.ensures.first c.split.ensures.others c.requires xs in
    others_unread _ (items_are_text ys) (items_are_text xs) c.from_residual-in_err-others.result c.in_err-others.field-0.0 _ (value_placed t.meaning (absent t.missing) (reads reject_duplicates t.shape) xs)
    (by_places reject_duplicates fs named ys) c.from_residual-in_err-others.ensures.1 c.in_err-others.ensures
    (whole ∙ ap (λ zs. both (value_placed t.meaning (absent t.missing) (reads reject_duplicates t.shape) xs) (by_places reject_duplicates fs named zs)) (sym c.after.ensures)) (after_bad xs ys c.after.ensures)

pub returns : goal.returns
returns g c =
    let t = g.F.FieldType.table in
    let r = g.R.Fields.table in
    let reject_duplicates = c.args.reader.reject_duplicates in
    let names = texts c.args.names.now in
    let xs = items_from (map tree_of c.args.items.now) in
    let named = r.meaning (texts c.split.result.1.now) in
    let fs = r.shape (texts c.split.result.1.now) in
    let whole = field_by_place t.missing t.meaning r.meaning reject_duplicates t.shape r.shape names c.split.result.0.now (texts c.split.result.1.now) c.split.ensures.first c.split.ensures.others c.requires xs in
    both_read _ _ _ _ _ whole c.in_ok-first.ensures (ap (by_places reject_duplicates fs named) (sym c.after.ensures) ∙ c.in_ok-others.ensures)
