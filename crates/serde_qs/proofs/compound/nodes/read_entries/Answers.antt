use Rattle.std.specs.Prelude.{◌||◌, Ok, Err}
use Rattle.qs_spec.specs.Node.{keys_are_names, keys_are_text}
use Rattle.qs_spec.specs.Shape.{are_ignored, fields_of}
use Rattle.qs_data.specs.read.TreeText.{entries_are_text}
use Rattle.qs_data.specs.read.Keys.{entries_view, unknown_of, when}
use Rattle.qs_data.proofs.lemmas.read.Entries.{keys_bad}
use Rattle.qs_data.proofs.lemmas.read.Errors.{and_right}
use Rattle.qs_data.proofs.lemmas.read.ReadErrors.{gives_exit, narrowed_gives, passed}
use Rattle.qs_data.proofs.lemmas.read.Unknown.{fails, passes}
use Rattle.serde_qs.specs.Nodes.{by_names}
use Rattle.serde_qs.specs.internal.NodeParts.{names_read}
use Rattle.serde_qs.specs.Records.{texts}
use Rattle.serde_qs.proofs.NodeValues.{names_broken, names_disallowed, names_ok, names_unread}
use Rattle.serde_qs.proofs.compound.nodes.read_entries.Goals as goal

pub returns-in_err-fields : goal.returns-in_err-fields
returns-in_err-fields g c =
    let t = g.F.Fields.table in
    let es = entries_view c.args.entries in
    let u = unknown_of c.args.unknown in
    let reject_duplicates = c.args.reader.reject_duplicates in
    let fs = t.shape (texts c.args.names.now) in
    let m = t.meaning (texts c.args.names.now) in
    let e = c.in_err-fields.field-0.0 in
    let read = by_names reject_duplicates fs m es in
    gives_exit t.value (entries_are_text es) (entries_are_text es) c.from_residual.result e read (names_read u reject_duplicates fs m es) c.from_residual.ensures.1
    (narrowed_gives t.value (entries_are_text es) c.from_entries.result (Err e) read c.in_err-fields.ensures c.from_entries.ensures) (names_unread u reject_duplicates fs m es) (λ f. f)

pub returns-in_err-of_result : goal.returns-in_err-of_result
returns-in_err-of_result g c =
    let t = g.F.Fields.table in
    let es = entries_view c.args.entries in
    let u = unknown_of c.args.unknown in
    let reject_duplicates = c.args.reader.reject_duplicates in
    let fs = t.shape (texts c.args.names.now) in
    let m = t.meaning (texts c.args.names.now) in
    let known = keys_are_names (fields_of fs) es || are_ignored u in
    let e = c.in_err-of_result.field-0.0 in
    gives_exit t.value (keys_are_text es) (entries_are_text es) c.from_residual-in_err-of_result.result e (when known) (names_read u reject_duplicates fs m es) c.from_residual-in_err-of_result.ensures.1
    (narrowed_gives (λ _. tt) (keys_are_text es) c.reject.result (Err e) (when known) c.in_err-of_result.ensures c.reject.ensures) (λ none. names_disallowed u reject_duplicates fs m es (and_right (keys_are_text es) known (fails known none))) (keys_bad es)

pub returns-in-Ok : goal.returns-in-Ok
returns-in-Ok g c =
    let t = g.F.Fields.table in
    let es = entries_view c.args.entries in
    let u = unknown_of c.args.unknown in
    let reject_duplicates = c.args.reader.reject_duplicates in
    let fs = t.shape (texts c.args.names.now) in
    let m = t.meaning (texts c.args.names.now) in
    let known = keys_are_names (fields_of fs) es || are_ignored u in
    names_ok u reject_duplicates fs m es (t.value c.in_ok-fields.fields) c.in-Ok.ensures.text
    (passes known (narrowed_gives (λ _. tt) (keys_are_text es) c.reject.result (Ok tt) (when known) c.in_ok-of_result.ensures c.reject.ensures))
    (narrowed_gives t.value (entries_are_text es) c.from_entries.result (Ok c.in_ok-fields.fields) (by_names reject_duplicates fs m es) c.in_ok-fields.ensures c.from_entries.ensures)

pub returns-in-Err : goal.returns-in-Err
returns-in-Err g c =
    let t = g.F.Fields.table in
    let es = entries_view c.args.entries in
    let u = unknown_of c.args.unknown in
    let reject_duplicates = c.args.reader.reject_duplicates in
    let fs = t.shape (texts c.args.names.now) in
    let m = t.meaning (texts c.args.names.now) in
    passed (entries_are_text es) c.into_error.result c.of.result (names_read u reject_duplicates fs m es) c.of.ensures
    (names_broken u reject_duplicates fs m es c.into_error.result c.in-Err.ensures.text c.into_error.ensures)
