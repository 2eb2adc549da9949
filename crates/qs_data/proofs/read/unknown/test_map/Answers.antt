use Rattle.qs_data.proofs.Common.{ap, sym, ◌∙◌, is_utf8, segment_text, is_field_name, keys_are_names, entries_of_map, parsed_segment_of_key, tree_of, keys_are_text, when}
use Rattle.qs_data.proofs.lemmas.read.FirstEntry.{key_bad}
use Rattle.qs_data.proofs.lemmas.read.ReadErrors.{gives_exit}
use Rattle.qs_data.proofs.lemmas.read.Unknown.{passes, fails, name_more, name_fails}
use Rattle.qs_data.proofs.read.unknown.test_map.Goals as goal

pub returns-in_err-test_key : goal.returns-in_err-test_key
returns-in_err-test_key g c =
    let es = entries_of_map c.args.map.now in
    let fs = g.N.FieldNames.fields c.args.names.now in
    let key = parsed_segment_of_key c.in-Some.key.now in
    let t = tree_of c.in-Some.field-0-1.now in
    let name = segment_text key.segment in
    gives_exit (λ (x : Unit {0}). tt {0}) (is_utf8 name) (keys_are_text es) c.from_residual.result c.in_err-test_key.field-0.0 (when (is_field_name name fs)) (when (keys_are_names fs es))
    c.from_residual.ensures.1 c.in_err-test_key.ensures
    (λ n. ap when (c.loop-i.invariant ∙ name_fails fs es c.loop-i.i (key, t) (sym c.in-Some.ensures.value) (fails (is_field_name name fs) n)))
    (key_bad c.loop-i.i es (key, t) (sym c.in-Some.ensures.value))

pub loop-i-preserved : goal.loop-i-preserved
loop-i-preserved g c =
    let es = entries_of_map c.args.map.now in
    let fs = g.N.FieldNames.fields c.args.names.now in
    let key = parsed_segment_of_key c.in-Some.key.now in
    let t = tree_of c.in-Some.field-0-1.now in
    c.loop-i.invariant ∙ name_more fs es c.loop-i.i (key, t) (sym c.in-Some.ensures.value) (passes (is_field_name (segment_text key.segment) fs) c.in_ok-test_key.ensures)
