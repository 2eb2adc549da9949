use Rattle.qs_spec.specs.Node.{found}
use Rattle.qs_spec.specs.internal.ReadFunction.{reads}
use Rattle.qs_data.specs.read.TreeText.{entries_are_text}
use Rattle.qs_data.specs.read.Narrowed.{error_of}
use Rattle.qs_data.specs.read.Keys.{entries_view}
use Rattle.serde_qs.specs.FieldTypes.{keyless}
use Rattle.serde_qs.specs.Nodes.{by_names, missing_data}
use Rattle.serde_qs.specs.internal.NodeParts.{value_found}
use Rattle.serde_qs.specs.Records.{texts}
use Rattle.serde_qs.proofs.NodeFields.{field_by_name, both_read, first_unread, others_differ, others_unread}
use Rattle.serde_qs.proofs.compound.fields.Tuple2Fields.from_entries.Goals as goal

pub from_entries-requires-clause-differ : goal.from_entries-requires-clause-differ
from_entries-requires-clause-differ g c =
    let t = g.F.FieldType.table in
    let r = g.R.Fields.table in
    let reject_duplicates = c.args.reader.reject_duplicates in
    let names = texts c.args.names.now in
    others_differ t.missing t.meaning r.meaning reject_duplicates t.shape r.shape names c.split.result.0.now (texts c.split.result.1.now) c.split.ensures.first c.split.ensures.others c.requires.differ

pub returns-in_err-first : goal.returns-in_err-first
returns-in_err-first g c =
    let t = g.F.FieldType.table in
    let r = g.R.Fields.table in
    let reject_duplicates = c.args.reader.reject_duplicates in
    let names = texts c.args.names.now in
    let es = entries_view c.args.entries in
    let whole = field_by_name t.missing t.meaning r.meaning reject_duplicates t.shape r.shape names c.split.result.0.now (texts c.split.result.1.now) c.split.ensures.first c.split.ensures.others c.requires.differ es in
    first_unread _ (entries_are_text es) (entries_are_text es) c.from_residual.result (error_of c.in_err-first.field-0.0) _ (value_found t.meaning (keyless t.meaning (missing_data t.shape) t.missing) (reads reject_duplicates t.shape) (found c.split.result.0.now es))
    (by_names reject_duplicates (r.shape (texts c.split.result.1.now)) (r.meaning (texts c.split.result.1.now)) es) c.from_residual.ensures.1 c.in_err-first.ensures whole (λ f. f)

pub returns-in_err-others : goal.returns-in_err-others
returns-in_err-others g c =
    let t = g.F.FieldType.table in
    let r = g.R.Fields.table in
    let reject_duplicates = c.args.reader.reject_duplicates in
    let names = texts c.args.names.now in
    let es = entries_view c.args.entries in
    let whole = field_by_name t.missing t.meaning r.meaning reject_duplicates t.shape r.shape names c.split.result.0.now (texts c.split.result.1.now) c.split.ensures.first c.split.ensures.others c.requires.differ es in
    others_unread _ (entries_are_text es) (entries_are_text es) c.from_residual-in_err-others.result c.in_err-others.field-0.0 _ (value_found t.meaning (keyless t.meaning (missing_data t.shape) t.missing) (reads reject_duplicates t.shape) (found c.split.result.0.now es))
    (by_names reject_duplicates (r.shape (texts c.split.result.1.now)) (r.meaning (texts c.split.result.1.now)) es) c.from_residual-in_err-others.ensures.1 c.in_err-others.ensures whole (λ f. f)

pub returns : goal.returns
returns g c =
    let t = g.F.FieldType.table in
    let r = g.R.Fields.table in
    let reject_duplicates = c.args.reader.reject_duplicates in
    let names = texts c.args.names.now in
    let es = entries_view c.args.entries in
    let whole = field_by_name t.missing t.meaning r.meaning reject_duplicates t.shape r.shape names c.split.result.0.now (texts c.split.result.1.now) c.split.ensures.first c.split.ensures.others c.requires.differ es in
    both_read _ _ _ _ _ whole c.in_ok-first.ensures c.in_ok-others.ensures
